-- `literal::offender` meets its contract, with a column of only values and without.
use mathlib.Core.Path.{refl}
use native.Mathlib.Omega.{arith}
use Rattle.literal.proofs.Posing.{some-kind, rooms-of, ready_of, laid_of, posed_of, compares-none, compares-other}
use Rattle.literal.proofs.offender.Goals as goal

pub first_offender-requires : goal.first_offender-requires
first_offender-requires c =
    let high = c.if-r-gt3.true in
    let s = c.requires in
    let d = s.1 in
    let t = d.1 in
    let own = d.4 in
    (some-kind _ s.0, omega (arith, t.kind.size), ready_of d.0 t d.2 d.3 d.6 _ _ (λ l. absurd (omega arith)))

pub returns-then-r-gt3 : goal.returns-then-r-gt3
returns-then-r-gt3 c =
    let high = c.if-r-gt3.true in
    λ doc p q t w j own held here yes' no'. c.first_offender.ensures doc p q (posed_of doc p t w here q _ _ (compares-none doc p q _ _ high)) own

pub only_values-only-requires : goal.only_values-only-requires
only_values-only-requires c =
    let d = c.requires.1 in
    let t = d.1 in
    let held = d.5 in
    (omega (arith, t.kind.size), rooms-of d.0 t d.2 d.3 d.6)

pub first_offender-requires-2 : goal.first_offender-requires-2
first_offender-requires-2 c =
    let s = c.requires in
    let d = s.1 in
    let t = d.1 in
    let own = d.4 in
    (some-kind _ s.0, omega (arith, t.kind.size), ready_of d.0 t d.2 d.3 d.6 _ _ (λ l. c.only_values-only.ensures.0))

pub returns : goal.returns
returns c =
    λ doc p q t w j own held here yes' no'.
    c.first_offender-2.ensures doc p q
    (posed_of doc p t w here q _ _ (compares-other doc p q _ _ _ yes' no' (c.only_values-only.ensures.1 doc p _ (laid_of doc p t w here) refl held))) own
