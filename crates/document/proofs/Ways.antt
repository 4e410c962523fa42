-- From a version up to the version in which its item stands: every record on that way is there, and its period is what 7 asks.
use mathlib.Core.Path.{◌≡◌, sym, ◌∙◌, ap}
use mathlib.Core.Logic.{⊎_elim}
use mathlib.Core.Bool.{Bool, false, ◌||◌}
use mathlib.Core.List.{List, []}
use Prim.Native.Nat.{ℕ, ◌≤◌, ◌<◌}
use native.Mathlib.Omega.{arith}
use lib.Dec.{ltb}
use lib.ListN.{length, get_or}
use borrow.Author.Tests.{eq-eqb, ne_eqb}
use Rattle.meaning.specs.Document.{Doc, above}
use Rattle.meaning.specs.Nodes.{leaves}
use Rattle.meaning.proofs.Basics.{le_or_lt}
use Rattle.document.specs.Steady.{Steady, periods, Placing, Way}

module _ (doc : Doc) where
  -- the root is no version, so a version has a lower parent
  pub version-lower : Steady doc → (v : ℕ) → v < doc.size → doc.kind v ≡ 2 → doc.parent v < v
  version-lower s v h k = ⊎_elim (λ (z : v ≤ 0). let e : v ≡ 0 = omega arith in absurd (s.root (ap doc.kind (sym e) ∙ k))) (λ (z : 0 < v). s.lower v z h) (le_or_lt v 0)

  module _ (v p : ℕ) (q : p ≡ doc.parent v) where
    pub leaves-root : p ≡ 0 → leaves doc v ≡ false
    unfolding leaves
    leaves-root z = rw (eq-eqb (doc.parent v) 0 (sym q ∙ z))

    pub leaves_by : (a : ℕ) → (p ≡ 0 → ⊥) → a ≡ doc.parent p → leaves doc v ≡ (ltb (doc.begin v) (doc.begin a) || ltb (doc.end a) (doc.end v))
    unfolding leaves
    leaves_by a z e = rw (sym q, sym e, ne_eqb p 0 z, above)

-- whether a version leaves the period is read off the parents and the periods, and not off the kinds
pub leaves-same : (kinds parents begins ends : List ℕ) (v : ℕ) (out : Bool) → out ≡ leaves (periods [] parents begins ends) v → out ≡ leaves (periods kinds parents begins ends) v
unfolding leaves
leaves-same kinds parents begins ends v out o = o

pub way : (kinds parents begins ends : List ℕ) → Placing kinds parents begins ends → (v p : ℕ) → v < length kinds → get_or kinds v 0 ≡ 2 → p ≡ get_or parents v 0
    → Way parents begins ends v p
way kinds parents begins ends s v p h k q =
    let low : p < v = omega (arith, version-lower _ s.steady v h k) in
    record {
      begin = s.begin ∙ sym s.parent;
      end = s.end ∙ sym s.parent;
      here = omega arith;
      is = q;
      lower = low;
      over = λ z. ⊎_elim (λ (n : p ≤ 0). absurd (z (omega arith))) (λ (n : 0 < p). s.steady.lower p n (omega arith)) (le_or_lt p 0);
    }
