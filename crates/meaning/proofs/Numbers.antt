-- No item clashes with a lower one exactly where `Numbered` holds.
use mathlib.Core.Path.{◌≡◌}
use mathlib.Core.Logic.{◌↔◌, inl, inr, ⊎_elim}
use mathlib.Core.Bool.{false}
use Prim.Native.Nat.{ℕ, ◌<◌}
use native.Mathlib.Omega.{arith}
use Rattle.meaning.specs.Document.{Doc}
use Rattle.meaning.specs.Nodes.{share_day, overlap, clash, clashes}
use Rattle.meaning.proofs.Sound.{Item, Numbered}
use Rattle.meaning.proofs.Basics.{le_or_lt}
use Rattle.meaning.proofs.Says.{says}
use Rattle.meaning.proofs.Places.{version-says}

module _ (doc : Doc) where
  -- 9: the test at every record is the statement
  pub numbered : ((i : ℕ) → i < doc.size → clashes doc i ≡ false) ↔ Numbered doc
  unfolding clashes clash overlap share_day
  numbered = (
    λ f. let g = simp (says, version-says) at f in
        record {
          name = λ j i h a b n. (g i b.here b.kind j (omega arith) (omega arith) (a.kind, n)).0;
          apart = λ j i u v h a b n x y. ⊎_elim inl
              (λ l. inr ((g i b.here b.kind j (omega arith) (omega arith) (a.kind, n)).1 u (omega arith) (omega arith) x v (omega arith) (omega arith) y l))
              (le_or_lt (doc.end v) (doc.begin u));
        },
    λ t. simp (says, version-says) (λ i h k j a b w.
        let item-j : Item doc j = record { here = omega arith; kind = w.0 } in
        let item-i : Item doc i = record { here = h; kind = k } in (
          t.name j i (omega arith) item-j item-i w.1,
          λ u c d x v e f y l. ⊎_elim (λ m. absurd (omega arith)) (λ m. m) (t.apart j i u v (omega arith) item-j item-i w.1 x y),
        )),
  )
