-- The chain of a class is made of the field versions under its item number.
use mathlib.Core.Path.{◌≡◌, refl, sym, ap, ◌∙◌}
use mathlib.Core.Logic.{⊎_elim}
use mathlib.Core.Bool.{true, ◌&&◌}
use mathlib.Core.List.{List}
use Prim.Native.Nat.{ℕ, ◌≤◌, ◌<◌}
use native.Mathlib.Omega.{arith}
use borrow.Author.Tests.{eqb-true, eq-eqb, lt-ltb, le-ltb}
use lib.Dec.{eqb}
use lib.ListN.{length, get_or}
use Rattle.meaning.specs.declared.Rule.{Rule}
use Rattle.meaning.specs.Document.{Doc, is_version, number_of}
use Rattle.meaning.specs.Select.{selected}
use Rattle.meaning.proofs.Basics.{tests_same, le_or_lt, and_l, and_r, both}
use Rattle.meaning.proofs.Walks.{any_some, any-true}
use Rattle.meaning.proofs.Says.{says}
use Rattle.meaning.proofs.Selects.{version-here, selected-version, selected-here, field_version}
use Rattle.meaning.specs.Block.{limit}
use Rattle.columns.specs.Chains.{past_last, keyed, Chained}
use Rattle.columns.specs.Lent.{Lends}
use Rattle.prepare.specs.Rows.{in_row}
use Rattle.prepare.specs.Keys.{Keys}
use Rattle.prepare.proofs.Keying.{past-alike}
use Rattle.groups.specs.Groups.{Groups, in_group, Gathered}
use Rattle.groups.specs.Classes.{class_at}

-- the class of a record below n, and of one from n on
pub class-here : (groups : List ℕ) (n v at : ℕ) → at ≡ v → at < n → get_or groups at 0 ≡ class_at groups n v
class-here groups n v at e h = rw (sym e, lt-ltb at n h)

pub class-none : (groups : List ℕ) (n v at : ℕ) → at ≡ v → n ≤ at → limit ≡ class_at groups n v
class-none groups n v at e h = rw (sym e, le-ltb at n h)

-- what is in a row or under an item number
module _ (doc : Doc) (r : Rule) where
  pub row-selected : (v f : ℕ) → in_row doc r v f ≡ true → selected doc r v ≡ true
  unfolding in_row
  row-selected v f e = (simp says at e).0.0

  pub row-version : (v f : ℕ) → in_row doc r v f ≡ true → is_version doc f ≡ true
  unfolding in_row
  row-version v f e = let w = simp says at e in field_version doc r v f w.0.0 w.0.1

  -- in the row of some version v of number n
  pub record Under (n f : ℕ) : Type 0 where
    pub of : ℕ
    pub row : in_row doc r of f ≡ true
    pub number : number_of doc of ≡ n

  pub group_under : (n f : ℕ) → in_group doc r n f ≡ true → Under n f
  unfolding in_group
  group_under n f e =
      let w = any-true (λ v. in_row doc r v f && eqb (number_of doc v) n) 0 doc.size e in
      let b = w.1.passes in
      record { of = w.0; row = and_l (in_row doc r w.0 f) _ b; number = eqb-true (number_of doc w.0) n (and_r (in_row doc r w.0 f) _ b) }

  pub under-group : (n f : ℕ) → Under n f → in_group doc r n f ≡ true
  unfolding in_group
  under-group n f u =
      let v = u.of in
      any_some (λ v. in_row doc r v f && eqb (number_of doc v) n) 0 doc.size v
      (record {
        from = omega arith;
        below = omega (arith, selected-here doc r v (row-selected v f u.row));
        passes = both (in_row doc r v f) (eqb (number_of doc v) n) u.row (eq-eqb (number_of doc v) n u.number);
      })

-- the class of a key, of n records, tells the item number
module _ (doc : Doc) (r : Rule) (n : ℕ) (keys groups : List ℕ) (all : n ≡ doc.size) (few : n ≤ limit) (s : Keys doc r keys) (g : Groups doc groups)
    (v : ℕ) (y : selected doc r v ≡ true) where
  here : v < doc.size
  here = selected-here doc r v y

  pub class_low : get_or groups v 0 < limit
  class_low = omega (arith, g.low v here)

  -- equal classes are equal numbers
  number_same : (u : ℕ) → selected doc r u ≡ true → eqb (number_of doc u) (number_of doc v) ≡ eqb (get_or groups u 0) (get_or groups v 0)
  number_same u z = g.same u v (selected-version doc r u z) (selected-version doc r v y)

  -- x is the class of f
  module _ (f : ℕ) (h : f < doc.size) (x : ℕ) (each : x ≡ class_at groups n (get_or keys f 0)) where
    -- it is that of v: the key of f is a version of the number of v
    classed_under : x ≡ get_or groups v 0 → Under doc r (number_of doc v) f
    classed_under e =
        let u = get_or keys f 0 in
        ⊎_elim
        (λ (past : n ≤ u). absurd (omega (arith, each, class-none groups n u u refl past, class_low)))
        (λ (l : u < n).
        let row : in_row doc r u f ≡ true = sym (s.key u f (omega arith) h) ∙ eq-eqb u u refl in
        let same : get_or groups u 0 ≡ get_or groups v 0 = class-here groups n u u refl l ∙ sym each ∙ e in
        record { of = u; row = row; number = eqb-true (number_of doc u) (number_of doc v) (number_same u (row-selected doc r u f row) ∙ eq-eqb (get_or groups u 0) (get_or groups v 0) same) })
        (le_or_lt n u)

    under-classed : Under doc r (number_of doc v) f → x ≡ get_or groups v 0
    under-classed w =
        let u = w.of in
        let z = row-selected doc r u f w.row in
        let l = selected-here doc r u z in
        let key : get_or keys f 0 ≡ u = eqb-true (get_or keys f 0) u (s.key u f l h ∙ w.row) in
        each ∙ ap (class_at groups n) key ∙ sym (class-here groups n u u refl (omega arith))
        ∙ eqb-true (get_or groups u 0) (get_or groups v 0) (sym (number_same u z) ∙ eq-eqb (number_of doc u) (number_of doc v) w.number)

    pub class-under : eqb x (get_or groups v 0) ≡ in_group doc r (number_of doc v) f
    class-under =
        tests_same (eqb x (get_or groups v 0)) (in_group doc r (number_of doc v) f)
        (λ t. under-group doc r (number_of doc v) f (classed_under (simp says at t)))
        (λ t. eq-eqb x (get_or groups v 0) (under-classed (group_under doc r (number_of doc v) f t)))

-- `classes` are the classes of the keys
module _ (doc : Doc) (r : Rule) (kinds keys groups classes last lower : List ℕ) (k : Lends doc.size doc.kind 0 kinds) (few : length kinds ≤ limit)
    (s : Keys doc r keys) (g : Groups doc groups) (each : (f : ℕ) → f < length kinds → get_or classes f 0 ≡ class_at groups (length kinds) (get_or keys f 0))
    (c : Chained limit kinds classes 2 (length kinds) last lower) where
  module _ (v : ℕ) (y : selected doc r v ≡ true) where
    low : get_or groups v 0 < limit
    low = class_low doc r (length kinds) keys groups k.size few s g v y

    -- the chain of the class is what is under the number
    under-number : (f : ℕ) → f < doc.size → keyed kinds classes 2 (get_or groups v 0) f ≡ in_group doc r (number_of doc v) f
    under-number f h =
        let same = class-under doc r (length kinds) keys groups k.size few s g v y f h (get_or classes f 0) (each f (omega (arith, k.size))) in
        tests_same (keyed kinds classes 2 (get_or groups v 0) f) (in_group doc r (number_of doc v) f)
        (λ t. sym same ∙ and_r (eqb (get_or kinds f 0) 2) (eqb (get_or classes f 0) (get_or groups v 0)) t)
        (λ t.
        let w = group_under doc r (number_of doc v) f t in
        let kind : doc.kind f ≡ 2 = simp says at (row-version doc r w.of f w.row) in
        both (eqb (get_or kinds f 0) 2) (eqb (get_or classes f 0) (get_or groups v 0)) (eq-eqb (get_or kinds f 0) 2 (k.at f ∙ kind)) (same ∙ t))

  pub gathered : Gathered doc r groups last lower
  gathered =
      record {
        last_room = omega (arith, c.last_room, k.size);
        lower_room = omega (arith, c.lower_room, k.size);
        last_is = λ v y. c.ends (get_or groups v 0) (low v y) ∙ ap (past_last (keyed kinds classes 2 (get_or groups v 0))) k.size ∙ past-alike _ _ doc.size (under-number v y);
        lower_is = λ v f y e.
            let w = group_under doc r (number_of doc v) f e in
            let h = version-here doc f (row-version doc r w.of f w.row) in
            c.steps (get_or groups v 0) f (low v y) (omega (arith, k.size)) (under-number v y f h ∙ e) ∙ past-alike _ _ f (λ j b. under-number v y j (omega arith));
      }
