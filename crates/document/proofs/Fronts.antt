-- The first n entries of nine columns, as the code cuts them: they have one length, and the answer on their document is as if cut by n.
use mathlib.Core.Path.{◌≡◌, sym, ap, ◌∙◌}
use mathlib.Core.List.{List}
use Prim.Native.Nat.{ℕ, ◌-◌, ◌≤◌}
use native.Mathlib.Nat.{sub-zero}
use native.Mathlib.Omega.{arith}
use lib.IntN.{ℤ}
use lib.ListN.{length, take}
use lib.Seq.{length-take-le}
use Rattle.meaning.specs.Reading.{Reading}
use Rattle.meaning.specs.Document.{columns}
use Rattle.meaning.specs.Nodes.{accept}
use Rattle.document.specs.Columns.{Even}
use Rattle.document.specs.Front.{Front}

-- as long as the code cuts them
cut : {A : Type 0} (n : ℕ) (l : List A) → n ≤ length l → length (take (n - 0) l) ≡ n
cut n l h = let e : n - 0 ≡ n = omega arith in rw e (length-take-le n l h)

pub front_even : (n : ℕ) (kinds vkinds names parents begins ends : List ℕ) (values : List ℤ) (items spares : List ℕ)
    → Front n (length kinds) (length vkinds) (length names) (length parents) (length begins) (length ends) (length values) (length items) (length spares)
    → Even (take (n - 0) kinds) (take (n - 0) vkinds) (take (n - 0) names) (take (n - 0) parents) (take (n - 0) begins) (take (n - 0) ends) (take (n - 0) values) (take (n - 0) items) (take (n - 0) spares)
front_even n kinds vkinds names parents begins ends values items spares f =
    let k = cut n kinds f.kind in
    record {
      few = omega (arith, k, f.few);
      vkind = cut n vkinds f.vkind ∙ sym k;
      name = cut n names f.name ∙ sym k;
      parent = cut n parents f.parent ∙ sym k;
      begin = cut n begins f.begin ∙ sym k;
      end = cut n ends f.end ∙ sym k;
      value = cut n values f.value ∙ sym k;
      item = cut n items f.item ∙ sym k;
      spare = cut n spares f.spare ∙ sym k;
    }

-- an answer on the document as the code cuts it is one on the first n entries
pub front_answer : (r : Reading) (n : ℕ) (kinds vkinds names parents begins ends : List ℕ) (values : List ℤ) (items spares : List ℕ)
    → r ≡ accept (columns (take (n - 0) kinds) (take (n - 0) vkinds) (take (n - 0) names) (take (n - 0) parents) (take (n - 0) begins) (take (n - 0) ends) (take (n - 0) values) (take (n - 0) items) (take (n - 0) spares))
    → r ≡ accept (columns (take n kinds) (take n vkinds) (take n names) (take n parents) (take n begins) (take n ends) (take n values) (take n items) (take n spares))
front_answer r n kinds vkinds names parents begins ends values items spares e = e ∙ ap (λ m. accept (columns (take m kinds) (take m vkinds) (take m names) (take m parents) (take m begins) (take m ends) (take m values) (take m items) (take m spares))) (sub-zero n)
