-- A rule image is accepted exactly where it is sound: refusals 21 to 26.
use mathlib.Core.Path.{◌≡◌}
use mathlib.Core.List.{List}
use Prim.Native.Nat.{ℕ}
use native.Mathlib.Omega.{arith}
use Rattle.meaning.specs.Reading.{Accepted}
use Rattle.meaning.specs.Block.{rule_form}
use Rattle.meaning.specs.Rules.{spare_in, read_rule, refers_well, rule_at, rules_of, table_tests, read_rules}
use Rattle.meaning.proofs.Orders.{order-passed, passed-order}
use Rattle.meaning.proofs.Says.{unless, says}
use Rattle.meaning.proofs.Tables.{rule_row}
use Rattle.meaning.proofs.Images.{image-sound, sound-image}
use Rattle.meaning.proofs.Sound.{SoundRules}

-- 21 to 26: an accepted rule image is sound
pub rules_sound : (image : List ℕ) → read_rules image ≡ Accepted → SoundRules image
unfolding read_rules table_tests read_rule spare_in refers_well
rules_sound image e =
    let w = simp says at e in
    let t = simp (says, rule_row) at (order-passed (table_tests image (rules_of image)) w.1) in
    record {
      image_form = image-sound rule_form image (omega arith) w.0;
      spare_39 = λ k h. (t.0 k h).0.0;
      spare_42 = λ k at h a b. omega (arith, (t.0 k h).0.1 at a b);
      table = λ k h. (t.0 k h).1;
      referred = λ k h r. let p = t.1.0 k h r in (p.0, (unless (rule_at (rules_of image) (rule_at (rules_of image) k).referred).kind 1).0 p.1);
    }

-- .. and a sound one is accepted
pub sound-rules : (image : List ℕ) → SoundRules image → read_rules image ≡ Accepted
unfolding read_rules table_tests read_rule spare_in refers_well
sound-rules image s =
    simp says (
      sound-image rule_form image s.image_form,
      passed-order (table_tests image (rules_of image)) (simp (says, rule_row) (
        λ k h. ((s.spare_39 k h, λ at a b. omega (arith, s.spare_42 k at h a b)), s.table k h),
        (λ k h r. let p = s.referred k h r in (p.0, (unless (rule_at (rules_of image) (rule_at (rules_of image) k).referred).kind 1).1 p.1), tt),
      )),
    )
