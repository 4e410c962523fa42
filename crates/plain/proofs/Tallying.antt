-- How change days are counted, a day at a time: what is counted so far, and what is left.
use mathlib.Core.Path.{◌≡◌, sym, ap, ◌∙◌}
use mathlib.Core.Bool.{Bool, true, false}
use Prim.Native.Nat.{ℕ, suc, ◌+◌, ◌-◌, ◌≤◌, ◌<◌}
use native.Mathlib.Numerals.{add-one}
use native.Mathlib.Omega.{arith}
use lib.ListN.{length}
use Rattle.meaning.specs.Walk.{pick}
use Rattle.meaning.proofs.Loops.{one_less}
use Rattle.meaning.proofs.Picks.{pick_yes, pick_no}

module _ (c : ℕ → Bool) (first past : ℕ) where
  -- n days that pass were counted before d
  pub record Counted (n d : ℕ) : Type 0 where
    pub whole : n + length (pick c d (past - d)) ≡ length (pick c first (past - first))

  pub counted_start : Counted 0 first
  counted_start = record { whole = omega arith }

  module _ (n d : ℕ) (s : Counted n d) where
    module _ (h : d < past) where
      -- what is left past d, where d passes and where it does not
      left-yes : c d ≡ true → length (pick c d (past - d)) ≡ suc (length (pick c (d + 1) (past - (d + 1))))
      left-yes e =
          ap (λ (k : ℕ). length (pick c d k)) (one_less d past h)
          ∙ rw (pick_yes c d (past - (d + 1)) e) (ap (λ (k : ℕ). suc (length (pick c k (past - (d + 1))))) (sym (add-one d)))

      left-no : c d ≡ false → length (pick c d (past - d)) ≡ length (pick c (d + 1) (past - (d + 1)))
      left-no e =
          ap (λ (k : ℕ). length (pick c d k)) (one_less d past h)
          ∙ rw (pick_no c d (past - (d + 1)) e) (ap (λ (k : ℕ). length (pick c k (past - (d + 1)))) (sym (add-one d)))

      pub counted-yes : {m : ℕ} → c d ≡ true → m ≡ n + 1 → Counted m (d + 1)
      counted-yes e q = record { whole = omega (arith, s.whole, left-yes e) }

      pub counted-no : {m : ℕ} → c d ≡ false → m ≡ n → Counted m (d + 1)
      counted-no e q = record { whole = omega (arith, s.whole, left-no e) }

    pub counted-end : past ≤ d → n ≡ length (pick c first (past - first))
    unfolding pick
    counted-end h = let z : past - d ≡ 0 = omega arith in let w = rw z at s.whole in omega (arith, w)
