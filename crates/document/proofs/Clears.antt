-- Where no item below i clashes: the lowest one that does is i, or there is none.
use mathlib.Core.Path.{◌≡◌, sym, ◌∙◌}
use mathlib.Core.Bool.{Bool, true}
use Prim.Native.Nat.{ℕ, ◌<◌}
use native.Mathlib.Omega.{arith}
use Rattle.std.specs.Prelude.{Some, None}
use Rattle.meaning.specs.Walk.{first}
use Rattle.meaning.specs.Document.{Doc}
use Rattle.meaning.specs.Nodes.{clashes}
use Rattle.meaning.proofs.Walks.{first-at, first-none}
use Rattle.twins.specs.Clear.{Clear}

module _ (doc : Doc) (i : ℕ) (c : Clear doc i) where
  -- the code found r at i
  pub clear_at : i < doc.size → (r : Bool) → r ≡ clashes doc i → r ≡ true → Some i ≡ first (clashes doc) 0 doc.size
  clear_at h r e y = sym (first-at (clashes doc) i 0 doc.size (omega arith) (omega arith) (sym e ∙ y) (λ j a l. c.none j l))

  pub clear-all : i ≡ doc.size → None ≡ first (clashes doc) 0 doc.size
  clear-all e = sym (first-none (clashes doc) 0 doc.size (λ j a l. c.none j (omega arith)))
