-- What is told of an answer determines it, and what is promised of columns determines them: two results that a promise allows are equal.
use mathlib.Core.Path.{◌≡◌, refl, ap, sym, ◌∙◌}
use mathlib.Core.Bool.{cond}
use mathlib.Core.List.{List}
use Prim.Native.Nat.{ℕ}
use lib.Dec.{eqb}
use Rattle.meaning.specs.Answer.{Told}
use Rattle.std.specs.Prelude.{Result, Ok, Err}
use Rattle.meaning.specs.declared.Refusal.{Refusal}
use Rattle.meaning.specs.Reading.{Refused}
use Rattle.columns.specs.declared.Columns.{Columns}
use Rattle.nodes.specs.Loading.{tell_loaded}
use Rattle.nodes.specs.Unpacking.{Unpacks, together}

-- the answer that was told
abbrev back : Told → Result ℕ Refusal
back t = cond (eqb t.outcome 0) (Ok t.count) (Refused t.number t.place)

pub loaded-unique : (a b : Result ℕ Refusal) → tell_loaded a ≡ tell_loaded b → a ≡ b
unfolding tell_loaded
loaded-unique a b e = sym (same a) ∙ ap back e ∙ same b
  where
    same : (x : Result ℕ Refusal) → back (tell_loaded x) ≡ x
    same (Ok n) = refl
    same (Err why) = refl

-- the columns that `read_columns` may answer for one image
pub columns-unique : (image : List ℕ) (c d : Columns) → Unpacks image c → Unpacks image d → c ≡ d
columns-unique image c d u w =
    let answer = loaded-unique c.loaded d.loaded (u.answer ∙ sym w.answer) in
    let kind = u.kind ∙ sym w.kind in
    let vkind = u.vkind ∙ sym w.vkind in
    let name = u.name ∙ sym w.name in
    let parent = u.parent ∙ sym w.parent in
    let begin = u.begin ∙ sym w.begin in
    let end = u.end ∙ sym w.end in
    let value = u.value ∙ sym w.value in
    let item = u.item ∙ sym w.item in
    λ j. together (answer j) (kind j) (vkind j) (name j) (parent j) (begin j) (end j) (value j) (item j)
