-- What comes of a whole text: its first line, and the ways after it.
use mathlib.Core.Path.{◌≡◌, refl, sym, ap, ◌∙◌}
use mathlib.Core.Bool.{Bool, true, false, ◌&&◌, cond}
use mathlib.Core.List.{List, []}
use Prim.Native.Nat.{ℕ, ◌≤◌}
use native.Mathlib.Omega.{arith}
use lib.Dec.{leb}
use Rattle.std.specs.Prelude.{Option, Some, None, Result, Ok, Err}
use Rattle.meaning.specs.Block.{limit}
use Rattle.meaning.specs.Lent.{Lent}
use Rattle.typed.specs.declared.BadLine.{BadLine}
use Rattle.typed.specs.declared.TypedRecords.{TypedRecords}
use Rattle.typed.specs.Numeral.{top, number_at}
use Rattle.typed.specs.Listing.{Lines, records, bad, lines_at, Text, told, on_count, text_of}
use Rattle.typed.specs.Entered.{Entered, Room, LinesRead, TextRead, blank, columns_of, Reads}
use Rattle.typed.proofs.Filling.{entered-nothing}

-- columns with room for more have room
pub room-less : {n m : ℕ} {c : Lent} → n ≤ m → Room m c → Room n c
room-less h r =
    record {
      kind = omega (arith, r.kind);
      vkind = omega (arith, r.vkind);
      name = omega (arith, r.name);
      parent = omega (arith, r.parent);
      begin = omega (arith, r.begin);
      end = omega (arith, r.end);
      value = omega (arith, r.value);
      item = omega (arith, r.item);
    }

module _ (text : List ℕ) where
  -- the first line is not a count
  pub text-bad : number_at text 0 top 10 ≡ None → (c : Lent) → TextRead text c (Err (record { line = 1 })) c
  unfolding text_of
  text-bad e c = record { answer = rw e; columns = λ m w. let wrong : ◌≡◌ {A = ℕ} 0 1 = cc in absurd (omega arith) }

  module _ {n next : ℕ} (e : number_at text 0 top 10 ≡ Some (n, next)) where
    -- a count of 0 or above the limit
    pub text-count : leb 1 n && leb n limit ≡ false → (c : Lent) → TextRead text c (Ok n) c
    unfolding text_of
    text-count t c = record { answer = rw (e, t); columns = λ m w. rw (e, t) (entered-nothing c) }

    -- a count, and the lines after it
    text-told : leb 1 n && leb n limit ≡ true → text_of text ≡ told n (lines_at text next 2 n)
    unfolding text_of
    text-told t = rw (e, t)

    pub text-lines : leb 1 n && leb n limit ≡ true → {old new : Lent} {r : Result ℕ BadLine} → LinesRead text next n old r new → TextRead text old r new
    text-lines t {old} {new} {r} l =
        record {
          answer = l.answer ∙ ap (λ (x : Text). x.answer) (sym (text-told t));
          columns = λ m g. rw (text-told t) (columns (lines_at text next 2 n) refl m g);
        }
      where
        columns : (s : Lines) → lines_at text next 2 n ≡ s → (m : ℕ) → r ≡ Ok m → Entered (told n (lines_at text next 2 n)).listed old new
        columns (records ns) f m g = rw f (l.columns ns f)
        columns (bad k) f m g =
            let wrong : ◌≡◌ {A = Result ℕ BadLine} (Ok m) (Err (record { line = k })) = sym g ∙ l.answer ∙ rw f in
            let z : ◌≡◌ {A = ℕ} 0 1 = cc in
            absurd (omega arith)

-- where the text is not in the form, it lists no record
told_none : (n : ℕ) (l : Lines) {b : BadLine} → (told n l).answer ≡ Err b → (told n l).listed ≡ []
told_none n (records ns) e = let z : ◌≡◌ {A = ℕ} 0 1 = cc in absurd (omega arith)
told_none n (bad k) e = refl

-- a whole text
bad-none : (text : List ℕ) {b : BadLine} → (text_of text).answer ≡ Err b → (text_of text).listed ≡ []
unfolding text_of
bad-none text {b} e = go (number_at text 0 top 10) e
  where
    lines : (t : Bool) (n next : ℕ) → (cond t (told n (lines_at text next 2 n)) (record { answer = Ok n; listed = [] })).answer ≡ Err b
        → (cond t (told n (lines_at text next 2 n)) (record { answer = Ok n; listed = [] })).listed ≡ []
    lines true n next f = told_none n (lines_at text next 2 n) f
    lines false n next f = refl

    go : (s : Option (ℕ × ℕ)) → (on_count text s).answer ≡ Err b → (on_count text s).listed ≡ []
    go (Some (n, next)) f = lines (leb 1 n && leb n limit) n next f
    go None f = refl

-- a text that is not in the form leaves columns of zeros
pub reads-bad : {text : List ℕ} {old new : Lent} {r : Result ℕ BadLine} → TextRead text old r new → {b : BadLine} → r ≡ Err b → {x : TypedRecords} → x.answer ≡ r → columns_of x ≡ blank → Reads text x
reads-bad {text} t e a z =
    let none = bad-none text (sym t.answer ∙ e) in
    record { answer = a ∙ t.answer; columns = rw (none, z) (entered-nothing blank) }
