-- How the walk over the root's versions goes on at a record: past it, on to its end, or no further.
use mathlib.Core.Path.{◌≡◌, sym, ◌∙◌}
use mathlib.Core.Bool.{true, false, ◌||◌}
use Prim.Native.Nat.{ℕ, ◌+◌, ◌-◌, ◌≤◌, ◌<◌}
use native.Mathlib.Numerals.{add-one}
use native.Mathlib.Omega.{arith}
use lib.Dec.{eqb, ltb}
use Rattle.meaning.specs.Document.{Doc, version_of}
use Rattle.meaning.specs.Nodes.{whole_from, whole}
use Rattle.meaning.proofs.Loops.{one_less}

-- the records below i are walked over, and the last root version among them ended on day `last`
pub record Run (doc : Doc) (last i : ℕ) : Type 0 where
  pub within : i ≤ doc.size
  pub rest : whole_from doc last i (doc.size - i) ≡ whole doc

module _ (doc : Doc) where
  pub run-start : Run doc 0 0
  unfolding whole
  run-start = let e : doc.size - 0 ≡ doc.size = omega arith in record { within = omega arith; rest = rw e }

  module _ (last i : ℕ) (s : Run doc last i) where
    pub run_end : doc.size ≤ i → ltb 0 last ≡ whole doc
    unfolding whole_from
    run_end h = let e : doc.size - i ≡ 0 = omega arith in rw e at s.rest

    module _ (h : i < doc.size) where
      pub run-skip : version_of doc 0 i ≡ false → Run doc last (i + 1)
      unfolding whole_from
      run-skip n = record { within = omega arith; rest = sym (rw (one_less i doc.size h, n, add-one i)) ∙ s.rest }

      module _ (y : version_of doc 0 i ≡ true) where
        pub run_on : (eqb last 0 || eqb (doc.begin i) last) ≡ true → Run doc (doc.end i) (i + 1)
        unfolding whole_from
        run_on z = record { within = omega arith; rest = sym (rw (one_less i doc.size h, y, z, add-one i)) ∙ s.rest }

        pub run-stop : (eqb last 0 || eqb (doc.begin i) last) ≡ false → false ≡ whole doc
        unfolding whole_from
        run-stop n = sym (rw (one_less i doc.size h, y, n)) ∙ s.rest
