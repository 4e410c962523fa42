-- What one record that joins or leaves does to the tallies, the openers and what they are told: a law for each way out.
use mathlib.Core.Path.{◌≡◌, refl, sym, ◌∙◌, ap}
use mathlib.Core.Bool.{Bool, true, false, ◌||◌}
use mathlib.Core.Logic.{◌⊎◌, inl, inr, ⊎_elim}
use mathlib.Core.List.{List}
use Prim.Native.Nat.{ℕ, ◌+◌, ◌-◌, ◌≤◌, ◌<◌}
use native.Mathlib.Omega.{arith}
use lib.Dec.{eqb, leb, ltb}
use lib.ListN.{length, set}
use lib.Seq.{get_or-set_same, get_or-set_other}
use Rattle.meaning.proofs.Basics.{went, clear}
use Rattle.meaning.proofs.Says.{says}
use Rattle.crowds.specs.Crowds.{at}
use Rattle.crowds.specs.Tallies.{by}
use Rattle.crowds.specs.Levels.{First, Takes, Joined, Left}

-- no record is left at position i, or the one there was looked at
pub first-none : (order lo : List ℕ) (i h : ℕ) → length order ≤ i → First order lo i h false
first-none order lo i h e = record { before = λ p. absurd (clear p refl); after = λ p l. absurd (omega arith) }

pub first_some : (order lo : List ℕ) (i h x : ℕ) → i < length order → x ≡ at order i → (r : Bool) → r ≡ ltb (at lo x) h → First order lo i h r
first_some order lo i h x l ex r er =
    let same : by order lo i ≡ at lo x = ap (at lo) (sym ex) in
    record {
      before = λ p. let w = simp says at (sym er ∙ p) in (l, omega arith);
      after = λ p q. let w = simp says at (sym er ∙ p) in omega arith;
    }

-- a number of a column that was set at k, asked for at c
at_set : (column : List ℕ) (k v c : ℕ) → k < length column → ((c ≡ k) × (at (set column k v) c ≡ v)) ⊎ (at (set column k v) c ≡ at column c)
at_set column k v c room =
    ⊎_elim
    (λ z. let q = simp says at z in inl (q, rw q (get_or-set_same column k v 0 room)))
    (λ z. inr (get_or-set_other column k c v 0 (simp says at z)))
    (went (eqb c k))

-- a record m, read as x, that was not passed over takes part
pub takes_part : (keys lo hi : List ℕ) (n x m : ℕ) → x ≡ m → (k : ℕ) → k ≡ at keys x → leb (at hi x) (at lo x) || leb n k ≡ false → (k < n) × Takes keys lo hi m k
takes_part keys lo hi n x m em k ek e =
    let w = simp says at e in
    let from : at lo x ≡ at lo m = ap (at lo) em in
    let to : at hi x ≡ at hi m = ap (at hi) em in
    (w.1, record { key = sym (ek ∙ ap (at keys) em); some = omega (arith, w.0) })

module _ (keys lo hi : List ℕ) (least x : ℕ) (tally opener : List ℕ) where
  -- x does not take part
  pub joined-none : Joined keys lo hi least x tally opener tally opener
  joined-none = record { risen = λ k. inl (omega arith); opened = λ k h. inl (h, refl) }

  module _ (k : ℕ) (room : k < length tally) (takes : Takes keys lo hi x k) where
    abbrev more : List ℕ
    more = set tally k (at tally k + 1)

    rise : (c : ℕ) → (at more c ≤ at tally c) ⊎ (Takes keys lo hi x c × (at more c ≤ at tally c + 1))
    rise c =
        ⊎_elim
        (λ z. inr (rw z.0 takes, let same : at tally c ≡ at tally k = ap (at tally) z.0 in omega (arith, z.1)))
        (λ z. inl (omega arith))
        (at_set tally k (at tally k + 1) c room)

    -- it is counted, and the tally does not come to `least`
    pub joined-more : (t : ℕ) → t ≡ at tally k → (t + 1 ≡ least → ⊥) → Joined keys lo hi least x tally opener more opener
    joined-more t et other =
        record {
          risen = rise;
          opened = λ c h. ⊎_elim
              (λ z. let same : at tally c ≡ at tally k = ap (at tally) z.0 in inl (omega (arith, z.1, other), refl))
              (λ z. inl (omega arith, refl))
              (at_set tally k (at tally k + 1) c room);
        }

    -- it is counted, and the tally comes to `least`
    pub joined-open : k < length opener → Joined keys lo hi least x tally opener more (set opener k x)
    joined-open wide =
        record {
          risen = rise;
          opened = λ c h. ⊎_elim
              (λ z. inr (takes.key ∙ sym z.0, rw z.0 (get_or-set_same opener k x 0 wide)))
              (λ z. ⊎_elim
              (λ y. inr (takes.key ∙ sym y.0, y.1))
              (λ y. inl (omega arith, y))
              (at_set opener k x c wide))
              (at_set tally k (at tally k + 1) c room);
        }

module _ (keys lo hi : List ℕ) (n least y : ℕ) (tally opener until : List ℕ) where
  -- y does not take part: it has no key below n, or is never present
  pub left-none : (m : ℕ) → m ≡ y → (k : ℕ) → k ≡ at keys m → leb (at hi m) (at lo m) || leb n k ≡ true → Left keys lo hi n least y tally opener until tally until
  left-none m em k ek e =
      let out = simp says at e in
      let from : at lo m ≡ at lo y = ap (at lo) em in
      let to : at hi m ≡ at hi y = ap (at hi) em in
      let key : k ≡ at keys y = ek ∙ ap (at keys) em in
      record {
        no_more = λ c. omega arith;
        taken = λ c h t. absurd (let o : n ≤ k = out (omega (arith, t.some)) in omega (arith, t.key));
        told = λ x. inl refl;
      }

  module _ (k m : ℕ) (room : k < length tally) (takes : Takes keys lo hi y k) (em : m ≡ at tally k - 1) where
    fall : (c : ℕ) → at (set tally k m) c ≤ at tally c
    fall c =
        ⊎_elim
        (λ z. let same : at tally c ≡ at tally k = ap (at tally) z.0 in omega (arith, z.1))
        (λ z. omega arith)
        (at_set tally k m c room)

    take : (c : ℕ) → c < n → Takes keys lo hi y c → at (set tally k m) c ≤ at tally c - 1
    take c h t =
        let same : c ≡ k = sym t.key ∙ takes.key in
        let same' : at tally c ≡ at tally k = ap (at tally) same in
        let now : at (set tally k m) c ≡ m = rw same (get_or-set_same tally k m 0 room) in
        omega arith

    -- its key had not come to `least`, or had more
    pub left_less : Left keys lo hi n least y tally opener until (set tally k m) until
    left_less = record { no_more = fall; taken = take; told = λ x. inl refl }

    -- its key had just as many, and its opener z is told
    pub left-told : k < n → (t : ℕ) → t ≡ at tally k → t ≡ least → (z : ℕ) → z ≡ at opener k → z < length until → (b : ℕ) → b ≡ at hi y
        → Left keys lo hi n least y tally opener until (set tally k m) (set until z b)
    left-told h t et e z ez wide b eb =
        record {
          no_more = fall;
          taken = take;
          told = λ x. ⊎_elim
              (λ w. inr (k, h, omega arith, sym (w.0 ∙ ez), w.1 ∙ eb))
              (λ w. inl w)
              (at_set until z b x wide);
        }
