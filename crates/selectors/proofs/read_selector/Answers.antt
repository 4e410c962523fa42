-- `selectors::read_selector` meets its contract.
use mathlib.Core.Path.{sym, ◌∙◌}
use Rattle.selectors.proofs.Selects.{comes-outside, in_profile_lem, comes-unsound, sound-all, all-entries, comes-looked}
use Rattle.selectors.proofs.read_selector.Goals as goal

pub returns-in-Some : goal.returns-in-Some
returns-in-Some c =
    comes-outside _ _ c.bad_place-place.ensures c.in-Some.is c.refused.ensures.0 c.refused.ensures.1

pub look_up-requires : goal.look_up-requires
look_up-requires c =
    let all = sound-all _ (sym c.in-Ok.ensures) in
    (rw all.1 at (all-entries _ all.0), in_profile_lem _ c.bad_place-place.ensures c.in_default.is)

pub returns-in-Err : goal.returns-in-Err
returns-in-Err c =
    comes-unsound _ _ (in_profile_lem _ c.bad_place-place.ensures c.in_default.is) (sym c.check-lines.ensures ∙ c.in-Err.is) c.refused-in-Err.ensures.0
    c.refused-in-Err.ensures.1

pub returns-in-Ok : goal.returns-in-Ok
returns-in-Ok c =
    let all = sound-all _ (sym c.in-Ok.ensures) in
    comes-looked _ _ _ (in_profile_lem _ c.bad_place-place.ensures c.in_default.is) all.0 all.1 c.look_up.ensures
