-- An earlier place serves as well: each promise of a part holds of every place before the one it was made of.
use mathlib.Core.Path.{◌≡◌}
use mathlib.Core.Bool.{cond}
use mathlib.Core.List.{List}
use Prim.Native.Nat.{ℕ, ◌≤◌}
use native.Mathlib.Omega.{arith}
use lib.Dec.{ltb}
use borrow.Author.Tests.{lt-ltb}
use Rattle.crowds.specs.Crowds.{ByMany}
use Rattle.parts.specs.Parts.{ByTwice, ByShared, ByFew, BelowWhole}
use Rattle.parts.specs.Matched.{ByUnmatched}

module _ (order lo hi : List ℕ) (n : ℕ) {D E : ℕ} (h : E ≤ D) where
  pub twice_earlier : (rows : List ℕ) → ByTwice order rows lo hi n D → ByTwice order rows lo hi n E
  unfolding ByTwice
  twice_earlier rows b x y p ox oy low same apart hx hy = omega (arith, b x y p ox oy low same apart hx hy)

  pub shared_earlier : (rows reps owners : List ℕ) → ByShared order rows reps owners lo hi n D → ByShared order rows reps owners lo hi n E
  unfolding ByShared
  shared_earlier rows reps owners b x y p ox oy lx ly same apart hx hy = omega (arith, b x y p ox oy lx ly same apart hx hy)

  pub unmatched_earlier : (rows others reps : List ℕ) → ByUnmatched order rows others reps lo hi n D → ByUnmatched order rows others reps lo hi n E
  unfolding ByUnmatched
  unmatched_earlier rows others reps b x p ox low hx none = omega (arith, b x p ox low hx none)

  pub few-earlier : (marks classes keys : List ℕ) (low : ℕ) → ByFew order marks classes keys lo hi n low D → ByFew order marks classes keys lo hi n low E
  unfolding ByFew
  few-earlier marks classes keys low b x p ox mark hx few = omega (arith, b x p ox mark hx few)

-- what a part promises of a place, cut to those below `whole`, and an earlier place, promises it of these
pub cut_earlier : (P : ℕ → Type 0) (whole place cut E : ℕ) → P place → cut ≡ cond (ltb place whole) place 65535 → E ≤ cut → BelowWhole P whole E
cut_earlier P whole place cut E h e l =
    record {
      place = place;
      promised = h;
      no_later = λ p below late. let kept : cut ≡ place = rw (lt-ltb place whole (omega arith)) at e in omega arith;
    }

pub many-earlier : (keys lo hi : List ℕ) (n high : ℕ) {D E : ℕ} → E ≤ D → ByMany keys lo hi n high D → ByMany keys lo hi n high E
unfolding ByMany
many-earlier keys lo hi n high h b k p low many = omega (arith, b k p low many)
