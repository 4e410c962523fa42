-- How what is left of a path goes down the tree: each version has one name less than the one above it, if its item's name fits.
use mathlib.Core.Path.{◌≡◌, sym, ◌∙◌, ap}
use mathlib.Core.Logic.{⊎_elim}
use mathlib.Core.Bool.{Bool, true, false, ◌&&◌, cond, false≢true}
use mathlib.Core.List.{List}
use Prim.Native.Nat.{ℕ, zero, suc, ◌+◌, ◌-◌, ◌≤◌, ◌<◌}
use native.Mathlib.Omega.{arith}
use lib.Dec.{eqb}
use lib.ListN.{length, get_or}
use borrow.Author.Tests.{eq-eqb, ne_eqb}
use Rattle.meaning.specs.declared.Rule.{Rule}
use Rattle.meaning.specs.Document.{Doc, is_version, above}
use Rattle.meaning.specs.Select.{name_fits, path_to, selected}
use Rattle.meaning.proofs.Basics.{clear, tests_same, and_l, and_r, both, le_or_lt}
use Rattle.meaning.proofs.Says.{says}
use Rattle.marks.specs.Marks.{Marks}
use Rattle.columns.specs.Lent.{Tree}
use Rattle.columns.specs.Judgeable.{Seated, Judgeable}
use Rattle.prepare.specs.Descent.{Passes, Left, Descends}
use Rattle.prepare.proofs.Filling.{Filled}

-- one more name, at each of three answers
module _ (path : List ℕ) (steps before name : ℕ) where
  abbrev passed_on : ℕ → Bool
  passed_on j = name_fits (get_or path j 0) name && eqb (before + j) (suc steps)

  -- nothing is left where no count of names passed can go on
  nothing : ((j : ℕ) → j < steps → passed_on j ≡ true → ⊥) → Passes path steps before name 0
  nothing out =
      record {
        most = omega arith;
        on = λ j h. tests_same (eqb (0 + suc j) (suc steps)) (passed_on j) (λ t. let e = simp says at t in absurd (omega arith)) (λ t. absurd (out j h t));
      }

  fits-there : (j : ℕ) → passed_on j ≡ true → name_fits (get_or path j 0) name ≡ true
  fits-there j = and_l (name_fits (get_or path j 0) name) (eqb (before + j) (suc steps))

  counts : (j : ℕ) → passed_on j ≡ true → before + j ≡ suc steps
  counts j t = simp says at (and_r (name_fits (get_or path j 0) name) (eqb (before + j) (suc steps)) t)

  pub passes-ended : before < 2 → Passes path steps before name 0
  passes-ended l = nothing (λ j h t. omega (arith, counts j t))

  -- the next name of the path, at k, and whether it fits
  module _ (low : 2 ≤ before) (high : before ≤ suc steps) (k : ℕ) (e : k ≡ suc steps - before) (fits : Bool) (f : fits ≡ name_fits (get_or path k 0) name) where
    -- it is the one after those that were passed
    next : (j : ℕ) → before + j ≡ suc steps → name_fits (get_or path j 0) name ≡ fits
    next j q = let same : j ≡ k = omega arith in ap (λ x. name_fits (get_or path x 0) name) same ∙ sym f

    pub passes-miss : fits ≡ false → Passes path steps before name 0
    passes-miss n = nothing (λ j h t. clear (fits-there j t) (next j (counts j t) ∙ n))

    pub passes-hit : fits ≡ true → Passes path steps before name (before - 1)
    passes-hit y =
        record {
          most = omega arith;
          on = λ j h. tests_same (eqb (before - 1 + suc j) (suc steps)) (passed_on j)
              (λ t.
              let s = simp says at t in
              let q : before + j ≡ suc steps = omega arith in
              both (name_fits (get_or path j 0) name) (eqb (before + j) (suc steps)) (next j q ∙ y) (eq-eqb (before + j) (suc steps) q))
              (λ t. let q = counts j t in eq-eqb (before - 1 + suc j) (suc steps) (omega arith));
        }

-- where the item p of a version stands, by the columns of some document that can be judged
module _ (kinds names parents : List ℕ) (doc : Doc) (t : Tree doc kinds names parents) (g : Judgeable doc) (v : ℕ) (k : get_or kinds v 0 ≡ 2)
    (p : ℕ) (e : p ≡ get_or parents v 0) where
  place : Seated doc v
  place = g.seated v (sym (t.kind.at v) ∙ k)

  item : p ≡ doc.parent v
  item = e ∙ t.parent.at v

  pub seat_item : (p < v) × (p < length names) × (p < length parents)
  seat_item = (
    omega (arith, item, place.up),
    omega (arith, item, place.up, place.here, t.name.size),
    omega (arith, item, place.up, place.here, t.parent.size),
  )

  -- an item but the root stands in a version, a lower record
  module _ (l : 0 < p) where
    rise : 0 < doc.parent v
    rise = omega (arith, item)

    up : get_or parents p 0 ≡ above doc v
    up = t.parent.at p ∙ ap doc.parent item

    pub seat_above : get_or parents p 0 < v
    seat_above = omega (arith, up, place.up, (place.over rise).lower)

    pub seat_version : get_or kinds (get_or parents p 0) 0 ≡ 2
    seat_version = ap (λ x. get_or kinds x 0) up ∙ t.kind.at (above doc v) ∙ (place.over rise).version

-- what is left below record v of a document, of what the columns have
module _ (kinds names parents : List ℕ) (doc : Doc) (r : Rule) (t : Tree doc kinds names parents) (v : ℕ) where
  pub left_other : (get_or kinds v 0 ≡ 2 → ⊥) → Left doc r v 0
  left_other n =
      record {
        most = omega arith;
        passed = λ m h. ne_eqb (0 + m) (suc r.steps) (λ e. omega arith) ∙ sym (rw (ne_eqb (doc.kind v) 2 (λ e. n (t.kind.at v ∙ e))));
      }

  module _ (k : get_or kinds v 0 ≡ 2) where
    -- one step down, as the columns have it
    step : (j : ℕ) → is_version doc v && path_to doc r (suc j) v
        ≡ (name_fits (get_or r.path j 0) (get_or names (get_or parents v 0) 0) && cond (eqb (get_or parents v 0) 0) (eqb j 0) (path_to doc r j (get_or parents (get_or parents v 0) 0)))
    unfolding path_to
    step j = rw (eq-eqb (doc.kind v) 2 (sym (t.kind.at v) ∙ k), t.parent.at v, t.parent.at (doc.parent v), t.name.at (doc.parent v))

    -- `before` is left before the item p
    module _ (p : ℕ) (e : p ≡ get_or parents v 0) (before : ℕ)
        (come : (j : ℕ) → j < r.steps → eqb (before + j) (suc r.steps) ≡ cond (eqb p 0) (eqb j 0) (path_to doc r j (get_or parents p 0)))
        (path : List ℕ) (steps x : ℕ) (a : r.path ≡ path) (b : r.steps ≡ steps) (s : Passes path steps before (get_or names p 0) x) where
      counted : (m : ℕ) → m ≤ r.steps → eqb (x + m) (suc r.steps) ≡ (is_version doc v && path_to doc r m v)
      unfolding path_to
      counted zero h =
          tests_same (eqb (x + zero) (suc r.steps)) (is_version doc v && false)
          (λ t. let q = simp says at t in absurd (omega (arith, s.most)))
          (λ t. absurd (false≢true (and_r (is_version doc v) false t)))
      counted (suc j) h =
          let on : eqb (x + suc j) (suc r.steps) ≡ (name_fits (get_or r.path j 0) (get_or names p 0) && eqb (before + j) (suc r.steps)) = rw (a, b) (s.on j (omega arith)) in
          on ∙ rw (come j (omega arith), e) (sym (step j))

      left-version : Left doc r v x
      left-version = record { most = omega (arith, s.most); passed = counted }

-- what is left before the item p of version v, as `left` has it below v, and what is left after it
module _ (kinds names parents left : List ℕ) (steps v : ℕ) (d : Descends kinds names parents left steps v) (k : get_or kinds v 0 ≡ 2)
    (p : ℕ) (e : p ≡ get_or parents v 0) where
  pub down_item : (p < length names) × (p < length parents)
  down_item = let s = seat_item kinds names parents d.doc d.tree d.judgeable v k p e in (s.1, s.2)

  pub down_below : 0 < p → get_or parents p 0 < v
  down_below = seat_above kinds names parents d.doc d.tree d.judgeable v k p e

  pub down_above : 0 < p → get_or parents p 0 < length left
  down_above l = omega (arith, down_below l, d.room)

  -- no record stands above the root
  pub down_top : p ≡ 0 → length kinds ≤ get_or parents p 0
  down_top z = omega (arith, ap (λ x. get_or parents x 0) z, d.tree.parent.at 0, d.tree.kind.size, d.judgeable.top)

  module _ (before : ℕ) (root : p ≡ 0 → before ≡ suc steps) (else : 0 < p → before ≡ get_or left (get_or parents p 0) 0) where
    pub down_before : before ≤ suc steps
    down_before =
        ⊎_elim (λ z. let h : p ≡ 0 = omega arith in omega (arith, root h)) (λ l. omega (arith, else l, d.few (get_or parents p 0) (down_below l))) (le_or_lt p 0)

    module _ (doc : Doc) (r : Rule) (t : Tree doc kinds names parents) (path : List ℕ) (a : r.path ≡ path) (b : r.steps ≡ steps)
        (below : (w : ℕ) → w < v → Left doc r w (get_or left w 0)) where
      come_down : (j : ℕ) → j < r.steps → eqb (before + j) (suc r.steps) ≡ cond (eqb p 0) (eqb j 0) (path_to doc r j (get_or parents p 0))
      come_down j h =
          ⊎_elim
          (λ z.
          let q : p ≡ 0 = omega arith in
          let w = root q in
          rw (eq-eqb p 0 q)
          (tests_same (eqb (before + j) (suc r.steps)) (eqb j 0)
          (λ t. let y = simp says at t in eq-eqb j 0 (omega arith))
          (λ t. let y = simp says at t in eq-eqb (before + j) (suc r.steps) (omega arith))))
          (λ l.
          let up : eqb (doc.kind (get_or parents p 0)) 2 ≡ true
          = eq-eqb (doc.kind (get_or parents p 0)) 2 (sym (t.kind.at (get_or parents p 0)) ∙ seat_version kinds names parents d.doc d.tree d.judgeable v k p e l) in
          let q : eqb (get_or left (get_or parents p 0) 0 + j) (suc r.steps) ≡ path_to doc r j (get_or parents p 0)
          = (below (get_or parents p 0) (down_below l)).passed j (omega arith) ∙ rw up in
          rw (ne_eqb p 0 (λ z. omega arith), else l) q)
          (le_or_lt p 0)

      pub left_down : (x : ℕ) → Passes path steps before (get_or names p 0) x → Left doc r v x
      left_down x s = left-version kinds names parents doc r t v k p e before come_down path steps x a b s

-- nothing but itself is left below a selected version
pub left-selected : (doc : Doc) (r : Rule) (v x : ℕ) → Left doc r v x → eqb x 1 ≡ selected doc r v
unfolding selected
left-selected doc r v x l =
    tests_same (eqb x 1) (eqb (x + r.steps) (suc r.steps))
    (λ t. let y = simp says at t in eq-eqb (x + r.steps) (suc r.steps) (omega arith))
    (λ t. let y = simp says at t in eq-eqb x 1 (omega arith))
    ∙ l.passed r.steps (omega arith)

pub left-marks : (doc : Doc) (r : Rule) (i : ℕ) (left : List ℕ) → Filled (Left doc r) i left → doc.size ≤ i → doc.size ≤ length left → Marks (selected doc r) doc.size left
left-marks doc r i left f h l = record { room = l; mark = λ v b. left-selected doc r v (get_or left v 0) (f.entry v (omega arith)) }
