-- Versions of one item number have one lowest item, so two versions have one number exactly where these are one.
use mathlib.Core.Path.{◌≡◌, sym, ap, ◌∙◌}
use mathlib.Core.Bool.{true}
use mathlib.Core.List.{List}
use Prim.Native.Nat.{ℕ, ◌≤◌, ◌<◌}
use native.Mathlib.Omega.{arith}
use borrow.Author.Tests.{eqb-true, eq-eqb}
use lib.Dec.{eqb}
use lib.ListN.{length, get_or}
use Rattle.std.specs.Prelude.{Some}
use Rattle.meaning.specs.Walk.{first}
use Rattle.meaning.specs.Document.{Doc, is_version, number_of}
use Rattle.meaning.proofs.Basics.{tests_same}
use Rattle.meaning.proofs.Walks.{first_found}
use Rattle.meaning.proofs.Says.{says}
use Rattle.meaning.proofs.Selects.{version-here}
use Rattle.columns.specs.Lent.{Numbers}
use Rattle.columns.specs.Judgeable.{Seated, Judgeable}
use Rattle.groups.specs.Groups.{Groups}
use Rattle.groups.specs.Classes.{held, Nested, numbered, Class, ClassedBelow}

module _ (doc : Doc) where
  -- the class of a version is an item of its number
  of_number : (v x : ℕ) → is_version doc v ≡ true → Class doc v x → doc.item x ≡ number_of doc v
  of_number v x k c = (simp says at (first_found (numbered doc (number_of doc v)) 0 doc.size x (c.of_version k)).passes).1

  -- x and y are the classes of versions u and v
  class_same : (u v x y : ℕ) → is_version doc u ≡ true → is_version doc v ≡ true → Class doc u x → Class doc v y → eqb (number_of doc u) (number_of doc v) ≡ eqb x y
  class_same u v x y k l c d =
      tests_same (eqb (number_of doc u) (number_of doc v)) (eqb x y)
      (λ e.
      let n = ap (λ a. first (numbered doc a) 0 doc.size) (eqb-true (number_of doc u) (number_of doc v) e) in
      let t : Some x ≡ Some y = sym (c.of_version k) ∙ n ∙ d.of_version l in
      let z : x ≡ y = cc in
      eq-eqb x y z)
      (λ e. eq-eqb (number_of doc u) (number_of doc v) (sym (of_number u x k c) ∙ ap doc.item (eqb-true x y e) ∙ of_number v y l d))

  -- the class of a version is that of its item
  class-version : (v : ℕ) → doc.kind v ≡ 2 → doc.parent v < v → doc.kind (doc.parent v) ≡ 1 → (x : ℕ) → Class doc (doc.parent v) x → Class doc v x
  class-version v k l p x c =
      record {
        low = omega (arith, c.low);
        of_item = λ e. let i = simp says at e in absurd (omega arith);
        of_version = λ e. c.of_item (eq-eqb (doc.kind (doc.parent v)) 1 p);
      }

  -- a record that is neither has none
  pub class-neither : (i : ℕ) → (doc.kind i ≡ 1 → ⊥) → (doc.kind i ≡ 2 → ⊥) → Class doc i 0
  class-neither i a b =
      record {
        low = omega arith;
        of_item = λ e. absurd (a (simp says at e));
        of_version = λ e. absurd (b (simp says at e));
      }

-- in nested columns the item of a version is lower, and has its class already
pub class_of-parent : (kinds parents items : List ℕ) → Nested kinds parents items → (v : ℕ) → get_or kinds v 0 ≡ 2 → (classes : List ℕ)
    → ClassedBelow (held kinds parents items) v classes → (i : ℕ) → i ≡ get_or parents v 0 → Class (held kinds parents items) v (get_or classes i 0)
class_of-parent kinds parents items n v k classes s i e =
    rw e (class-version (held kinds parents items) v k (n.lower v k) (n.of_item v k) _ (s.each (get_or parents v 0) (n.lower v k)))

-- a document is classed as the three columns that hold it are
module _ (doc : Doc) (kinds parents items : List ℕ) (n : Numbers doc kinds parents items) where
  pub nested_of : Judgeable doc → Nested kinds parents items
  nested_of c =
      let place : (v : ℕ) → get_or kinds v 0 ≡ 2 → Seated doc v = λ v k. c.seated v (sym (n.kind.at v) ∙ k) in
      record {
        few = omega (arith, n.kind.size, c.few);
        parent = n.parent.size ∙ sym n.kind.size;
        item = n.item.size ∙ sym n.kind.size;
        lower = λ v k. rw (n.parent.at v) (place v k).up;
        of_item = λ v k. rw (n.parent.at v, n.kind.at (doc.parent v)) (place v k).item;
      }

  pub grouped : (classes : List ℕ) → length kinds ≤ length classes → ClassedBelow (held kinds parents items) (length kinds) classes → Groups doc classes
  grouped classes room s =
      let size = n.kind.size in
      let number : (v : ℕ) → number_of doc v ≡ number_of (held kinds parents items) v = λ v. sym (rw (n.parent.at v) (n.item.at (doc.parent v))) in
      let turn : (v : ℕ) → is_version doc v ≡ true → is_version (held kinds parents items) v ≡ true = λ v e. rw (n.kind.at v) e in
      record {
        room = omega arith;
        low = λ v h. omega (arith, (s.each v (omega arith)).low);
        same = λ u v a b.
            rw (number u, number v)
            (class_same (held kinds parents items) u v _ _ (turn u a) (turn v b) (s.each u (omega (arith, version-here doc u a))) (s.each v (omega (arith, version-here doc v b))));
      }
