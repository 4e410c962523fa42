-- Whether a version offends, for each kind from what was counted and compared.
use mathlib.Core.Path.{◌≡◌, refl, sym, ◌∙◌, ap}
use mathlib.Core.Bool.{Bool, true, false, ◌&&◌, ◌||◌, not}
use mathlib.Core.List.{List}
use Prim.Native.Nat.{ℕ, suc, ◌-◌, ◌≤◌, ◌<◌}
use native.Mathlib.Omega.{arith}
use lib.IntN.{ℤ, pos}
use lib.Signed.{le_z}
use lib.Dec.{eqb, ltb}
use lib.ListN.{get_or}
use borrow.Author.Tests.{eq-eqb, eqb-true, ne_eqb}
use Rattle.meaning.specs.declared.Rule.{Rule}
use Rattle.meaning.specs.Document.{Doc}
use Rattle.meaning.specs.Rules.{by_kind}
use Rattle.meaning.specs.Walk.{any, count}
use Rattle.meaning.specs.Select.{field_of, is_nil, is_number, within, selected, present, gives}
use Rattle.meaning.specs.Day.{values, shares_only, taken, key, unique, reference, cardinality, datatype, breaks, offends}
use Rattle.meaning.proofs.Basics.{and_same}
use Rattle.marks.specs.Marks.{marked, Marks}
use Rattle.literal.specs.Laid.{Valued}
use Rattle.literal.specs.Counts.{Counts}
use Rattle.literal.specs.Wrong.{gives_wrong}
use Rattle.literal.specs.Only.{Only, shares_at}
use Rattle.literal.specs.Posed.{Compares}
use Rattle.literal.proofs.Alone.{chosen_present, nil_is, shared_is}

-- a count outside the bounds
pub count-breaks : (doc : Doc) (p : ℕ → Bool) (r : Rule) (v many : ℕ) (low high : ℤ) (x : Bool) → x ≡ not (le_z low (pos many) && le_z (pos many) high)
    → low ≡ r.low → high ≡ r.high → many ≡ count (λ f. field_of doc r v f && p f) 0 doc.size → x ≡ cardinality doc p r v
unfolding cardinality within
count-breaks doc p r v many low high x e l h c = e ∙ rw (l, h, c)

-- f gives a wrong value
pub wrong-breaks : (doc : Doc) (p : ℕ → Bool) (r : Rule) (vkinds : List ℕ) (vals : List ℤ) → Valued doc vkinds vals → (v f : ℕ) (g w : Bool) (z low high : ℤ)
    → g ≡ gives doc p r v f → w ≡ not (eqb (get_or vkinds f 0) 3 || (eqb (get_or vkinds f 0) 1 && (le_z low z && le_z z high))) → z ≡ get_or vals f (pos 0) → low ≡ r.low → high ≡ r.high
    → g && w ≡ gives_wrong doc p r v f
unfolding gives_wrong within is_nil is_number
wrong-breaks doc p r vkinds vals d v f g w z low high eg ew ez el eh = rw (eg, ew, ez, el, eh, d.vkind.at f, d.value.at f)

pub datatype-is : (doc : Doc) (p : ℕ → Bool) (r : Rule) (v : ℕ) (x : Bool) → x ≡ any (gives_wrong doc p r v) 0 doc.size → x ≡ datatype doc p r v
unfolding datatype gives_wrong
datatype-is doc p r v x e = e

-- one value, and what is asked of it
module _ (many : ℕ) (b : Bool) where
  pub taken_not : (many ≡ 1 → ⊥) → false ≡ (eqb many 1 && b)
  taken_not n = sym (rw (ne_eqb many 1 n))

  pub taken-one : many ≡ 1 → (x : Bool) → x ≡ b → x ≡ (eqb many 1 && b)
  taken-one o x e = e ∙ sym (rw (eq-eqb many 1 o))

-- by the kind
module _ (doc : Doc) (p : ℕ → Bool) (q r : Rule) (v : ℕ) {x : Bool} where
  as_kind : (k : ℕ) → r.kind ≡ k → x ≡ breaks doc p q r v k → x ≡ breaks doc p q r v r.kind
  as_kind k e h = h ∙ ap (breaks doc p q r v) (sym e)

  pub breaks-count : r.kind ≡ 4 → x ≡ cardinality doc p r v → x ≡ breaks doc p q r v r.kind
  unfolding breaks by_kind
  breaks-count k e = as_kind 4 k e

  pub breaks-datatype : 4 < r.kind → x ≡ datatype doc p r v → x ≡ breaks doc p q r v r.kind
  unfolding breaks by_kind
  breaks-datatype h e = let k : r.kind ≡ suc (suc (suc (suc (suc (r.kind - 5))))) = omega arith in as_kind (suc (suc (suc (suc (suc (r.kind - 5)))))) k e

-- the kinds that compare values
module _ (doc : Doc) (p : ℕ → Bool) (q r : Rule) (only : List ℕ) (w : Compares doc p q r only) (v many one : ℕ) (c : Counts (gives doc p r v) doc.size many one) where
  has-many : many ≡ values doc p r v
  unfolding values
  has-many = c.counts

  pub breaks-key_not_one : r.kind ≡ 1 → (many ≡ 1 → ⊥) → true ≡ breaks doc p q r v r.kind
  unfolding breaks by_kind key
  breaks-key_not_one k n = as_kind doc p q r v 1 k (rw (ne_eqb (values doc p r v) 1 (λ e. n (has-many ∙ e))))

  -- compared with the only values of a rule s
  compared : (s : Rule) → Only doc p s only → (upto : ℕ) → upto ≤ doc.size → (t : Bool) → t ≡ (eqb many 1 && any (shares_at doc only one) 0 upto)
      → t ≡ (eqb (values doc p r v) 1 && any (shares_only doc p r v s) 0 upto)
  compared s o upto l t e =
      e
      ∙ and_same (eqb many 1) _ _ (λ y. shared_is doc p s r v one many c (eqb-true many 1 y) only o upto l)
      ∙ rw has-many

  -- t tells whether there is one value, equal to the only value of a version below `upto`
  module _ (t : Bool) (upto : ℕ) (low : upto ≤ doc.size) (e : t ≡ (eqb many 1 && any (shares_at doc only one) 0 upto)) where
    twice : r.kind ≤ 2 → upto ≡ v → t ≡ taken doc p r v
    unfolding taken
    twice h i = rw i at (compared r (w.own h) upto low t e)

    pub breaks-key : r.kind ≡ 1 → upto ≡ v → many ≡ 1 → (nil : Bool) → nil ≡ is_nil doc one → nil || t ≡ breaks doc p q r v r.kind
    unfolding breaks by_kind key
    breaks-key k i m nil is = as_kind doc p q r v 1 k (rw (is, twice (omega arith) i, eq-eqb (values doc p r v) 1 (sym has-many ∙ m), nil_is doc p r v one many c m))

    pub breaks-unique : r.kind ≡ 2 → upto ≡ v → ltb 1 many || t ≡ breaks doc p q r v r.kind
    unfolding breaks by_kind unique
    breaks-unique k i = as_kind doc p q r v 2 k (rw (has-many, twice (omega arith) i))

    pub breaks-reference : r.kind ≡ 3 → upto ≡ doc.size → ltb 1 many || (eqb many 1 && not t) ≡ breaks doc p q r v r.kind
    unfolding breaks by_kind reference
    breaks-reference k i =
        as_kind doc p q r v 3 k
        (rw (has-many, rw i at (compared q (w.referred k) upto low t e))
        (ap (λ b. ltb 1 (values doc p r v) || b) (once (eqb (values doc p r v) 1) _)))
      where
        once : (a b : Bool) → a && not (a && b) ≡ (a && not b)
        once true b = refl
        once false b = refl

-- selected and present, or not
module _ (doc : Doc) (p : ℕ → Bool) (q r : Rule) (owns presents : List ℕ) (m : Marks (selected doc r) doc.size owns) (here : Marks p doc.size presents)
    (v : ℕ) (low : v < doc.size) where
  chosen : marked owns v && marked presents v ≡ present doc p r v
  chosen = chosen_present doc p r presents owns here m v low

  pub offends-absent : marked owns v && marked presents v ≡ false → false ≡ offends doc p q r v
  unfolding offends
  offends-absent z = sym (rw (sym chosen ∙ z))

  pub offends-breaks : marked owns v && marked presents v ≡ true → (x : Bool) → x ≡ breaks doc p q r v r.kind → x ≡ offends doc p q r v
  unfolding offends
  offends-breaks y x e = e ∙ sym (rw (sym chosen ∙ y))
