-- What is read off at the places of an order, and the chains along it.
use mathlib.Core.Path.{◌≡◌, sym, ap, ◌∙◌}
use mathlib.Core.Bool.{Bool, true, false, cond}
use mathlib.Core.List.{List}
use Prim.Native.Nat.{ℕ, ◌-◌, ◌≤◌, ◌<◌, max}
use native.Mathlib.Omega.{arith}
use mathlib.Core.Logic.{⊎_elim}
use lib.ListN.{length, get_or, take, replicate, length-replicate, get_or-replicate, get_or-eq_default}
use lib.Seq.{length-take-le, get_or-take}
use borrow.Author.Tests.{eq-eqb, ne_eqb, le-leb, lt-leb, lt-ltb, le-ltb}
use Rattle.meaning.specs.Block.{limit}
use Rattle.meaning.specs.declared.Rule.{Rule}
use Rattle.meaning.specs.Document.{Doc, number_of}
use Rattle.meaning.specs.Select.{selected}
use Rattle.meaning.proofs.Basics.{le_or_lt}
use Rattle.columns.specs.Chains.{past_last, keyed, Chained}
use Rattle.columns.proofs.Along.{past-low}
use Rattle.prepare.specs.Keys.{Keys}
use Rattle.prepare.proofs.Keying.{past-alike}
use Rattle.groups.specs.Groups.{Groups}
use Rattle.groups.specs.Classes.{class_at}
use Rattle.groups.proofs.Gathering.{class_low, class-under}
use Rattle.steps.specs.Greatest.{Chain, greater}
use Rattle.steps.specs.Levels.{Placed}
use Rattle.steps.specs.Places.{Threaded, group_at, end_at, settled_as}

-- what is chosen by a test that passes, and by one that fails
pub where_true : (t : Bool) (x y : ℕ) → t ≡ true → x ≡ cond t x y
where_true t x y e = rw e

pub where_false : (t : Bool) (x y : ℕ) → t ≡ false → y ≡ cond t x y
where_false t x y e = rw e

-- the last place of a class
pub last_none : (last : List ℕ) (class k : ℕ) → k ≡ class → length last ≤ k → 0 ≡ get_or last class 0
last_none last class k e h = rw e at (sym (get_or-eq_default last 0 h))

pub last_some : (last : List ℕ) (class k : ℕ) → k ≡ class → get_or last k 0 ≡ get_or last class 0
last_some last class k e = ap (λ x. get_or last x 0) e

-- the end at a place
pub end_none : (ends order : List ℕ) (place : ℕ) → place ≡ 0 → 0 ≡ end_at ends order place
unfolding end_at
end_none ends order place e = rw (eq-eqb place 0 e)

pub end-some : (ends order : List ℕ) (place i p : ℕ) → (place ≡ 0 → ⊥) → i ≡ place → p ≡ get_or order (i - 1) 0 → get_or ends p 0 ≡ end_at ends order place
unfolding end_at
end-some ends order place i p n e q = rw (ne_eqb place 0 n, q, e)

-- the reach of a record, by each way of telling it
module _ (v n vkind until parting : ℕ) where
  pub settled_none : (i : ℕ) → i ≡ v → n ≤ i → 0 ≡ settled_as v n vkind until parting
  unfolding settled_as
  settled_none i e h = rw (le-leb n v (omega arith))

  module _ (i : ℕ) (e : i ≡ v) (h : i < n) where
    pub settled_text : (vkind ≡ 1 → ⊥) → 65535 ≡ settled_as v n vkind until parting
    unfolding settled_as
    settled_text t = rw (lt-leb n v (omega arith), ne_eqb vkind 1 t)

    pub settled_free : vkind ≡ 1 → parting ≡ 0 → until ≡ settled_as v n vkind until parting
    unfolding settled_as
    settled_free t p = rw (lt-leb n v (omega arith), eq-eqb vkind 1 t, eq-eqb parting 0 p)

    pub settled_parted : vkind ≡ 1 → (parting ≡ 0 → ⊥) → 0 ≡ settled_as v n vkind until parting
    unfolding settled_as
    settled_parted t p = rw (lt-leb n v (omega arith), eq-eqb vkind 1 t, ne_eqb parting 0 p)

-- the maximum is the greater
greater_max : (x y : ℕ) → max x y ≡ greater x y
greater_max x y = ⊎_elim (λ h. rw (le-ltb x y h) (omega arith)) (λ h. rw (lt-ltb x y h) (omega arith)) (le_or_lt y x)

-- so the end at the later of two places
pub end-later : (ends order : List ℕ) (x y t : ℕ) {e : ℕ} → e ≡ end_at ends order t → t ≡ max x y → e ≡ end_at ends order (greater x y)
end-later ends order x y t p q = p ∙ ap (end_at ends order) (q ∙ greater_max x y)

-- the chains of the classes along an order; the kinds are all 2
module _ (n : ℕ) (keys groups order classes whole last lower : List ℕ) (few : n ≤ limit) (placed : Placed n order)
    (each : (j : ℕ) → j < length order → get_or classes j 0 ≡ class_at groups n (get_or keys (get_or order j 0) 0))
    (twos : whole ≡ replicate limit 2) (c : Chained limit (take (length order - 0) whole) classes 2 (length (take (length order - 0) whole)) last lower) where
  kinds : List ℕ
  kinds = take (length order - 0) whole

  size : length kinds ≡ length order
  unfolding kinds
  size = length-take-le (length order - 0) whole (omega (arith, ap length twos ∙ length-replicate {A = ℕ} limit 2, placed.few)) ∙ omega arith

  two : (j : ℕ) → j < length order → get_or kinds j 0 ≡ 2
  unfolding kinds
  two j h = get_or-take (length order - 0) whole j 0 (omega arith) ∙ ap (λ w. get_or w j 0) twos ∙ get_or-replicate limit j 2 0 (omega (arith, placed.few))

  module _ (doc : Doc) (r : Rule) (all : doc.size ≡ n) (s : Keys doc r keys) (g : Groups doc groups) (v : ℕ) (y : selected doc r v ≡ true) where
    under : (j : ℕ) → j < length order → keyed kinds classes 2 (get_or groups v 0) j ≡ group_at doc r order (number_of doc v) j
    under j h =
        rw (two j h)
        (class-under doc r n keys groups (sym all) few s g v y (get_or order j 0) (omega (arith, placed.here j h)) (get_or classes j 0) (each j h))

    along : Chain (group_at doc r order (number_of doc v)) (length order) (get_or last (get_or groups v 0) 0) lower
    unfolding kinds
    along =
        let l = class_low doc r n keys groups (sym all) few s g v y in
        record {
          last_is = c.ends (get_or groups v 0) l ∙ ap (past_last (keyed kinds classes 2 (get_or groups v 0))) size ∙ past-alike _ _ (length order) under;
          lower_is = λ j h m. c.steps (get_or groups v 0) j l (omega (arith, size)) (under j h ∙ m) ∙ past-alike _ _ j (λ i b. under i (omega arith));
        }

  pub threaded : Threaded n keys groups order last lower
  unfolding kinds
  threaded =
      record {
        last_room = c.last_room;
        lower_room = c.lower_room;
        low = λ k. ⊎_elim
            (λ (h : limit ≤ k). omega (arith, get_or-eq_default last 0 {n = k} (omega (arith, c.last_room))))
            (λ (h : k < limit). omega (arith, c.ends k h, past-low (keyed kinds classes 2 k) (length kinds), size))
            (le_or_lt limit k);
        chain = along;
      }
