-- Items of one number with one name, whose versions lie apart, do not clash.
use mathlib.Core.Path.{◌≡◌, sym, ◌∙◌, ap}
use mathlib.Core.List.{List, []}
use Prim.Native.Nat.{ℕ, ◌≤◌, ◌<◌}
use native.Mathlib.Omega.{arith}
use lib.ListN.{length, get_or}
use Rattle.meaning.specs.Block.{limit}
use Rattle.meaning.specs.Document.{Doc, columns, version_of}
use Rattle.meaning.specs.Nodes.{share_day, overlap, clash, clashes}
use Rattle.meaning.proofs.Says.{says}
use Rattle.meaning.proofs.Places.{counted}
use Rattle.columns.specs.Chains.{numbered}
use Rattle.twins.specs.Classed.{OwnPlaces, OneNumber, Classed, Alone}
use Rattle.twins.specs.Apart.{Held, Lists, Apart}
use Rattle.twins.specs.Clear.{Clear}

module _ (kinds names parents begins ends items classes : List ℕ) (named m : ℕ) (s : Classed kinds names items classes named)
    (t : Apart kinds parents begins ends classes m) (few : m ≤ named) where
  abbrev doc : Doc
  doc = columns kinds [] names parents begins ends [] items []

  pub clear_of : Clear doc m
  unfolding clashes clash overlap version_of share_day
  clear_of =
      record {
        few = omega (arith, s.few);
        none = λ i h. simp says (λ k j z l p.
            let o : OneNumber kinds items j i = record { item = p.0; other = k; number = p.1 } in (
              s.name j i (omega arith) (omega arith) o,
              λ u a b x v c d y f.
                  let g = t.apart u v (simp says (x.0, omega (arith, x.1))) (simp says (y.0, omega (arith, y.1)))
                  (ap (λ w. get_or classes w 0) x.1 ∙ s.class j i (omega arith) (omega arith) o ∙ sym (ap (λ w. get_or classes w 0) y.1))
                  (λ w. let q : get_or parents u 0 ≡ get_or parents v 0 = ap (λ r. get_or parents r 0) w in omega (arith, x.1, y.1)) f in
                  omega arith,
            ));
      }

-- nor do items that have no number in common
pub clear-alone : (kinds names parents begins ends items classes : List ℕ) (m : ℕ) → Classed kinds names items classes m → Alone kinds items m
    → Clear (columns kinds [] names parents begins ends [] items []) m
unfolding clashes clash
clear-alone kinds names parents begins ends items classes m s a =
    record {
      few = s.few;
      none = λ i h. simp says (λ k j z l p. absurd (let o : OneNumber kinds items j i = record { item = p.0; other = k; number = p.1 } in
          omega (arith, a.one j i (omega arith) (omega arith) o)));
    }

-- the classes are what the passes over days ask for
pub held_of : (kinds names parents begins ends items classes : List ℕ) (m : ℕ) → length kinds ≤ limit → length parents ≡ length kinds → length begins ≡ length kinds
    → length ends ≡ length kinds → Classed kinds names items classes m → Held kinds parents begins ends classes m
held_of kinds names parents begins ends items classes m most p b e s =
    record { parent = p; begin = b; end = e; few = s.few; class_room = s.room; low = λ i h. omega (arith, s.low i h) }

module _ (kinds : List ℕ) where
  -- a version is one of the records
  here : (v : ℕ) → get_or kinds v 0 ≡ 2 → v < length kinds
  here v k = counted (numbered kinds []) v (omega arith)

  -- the records in their order are a list of all versions
  pub lists_own : (own : List ℕ) → OwnPlaces own (length kinds) → Lists kinds own (length kinds)
  lists_own own s =
      record {
        room = s.room;
        inside = λ k h. rw (s.at k h) h;
        place = λ v. v;
        all = λ v k. (here v k, s.at v (here v k));
      }
