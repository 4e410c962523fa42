-- The refusals of writing said plainly: for each number when it is due, in the order of the call, and that the call's answer says so; which numbers there are.
use Rattle.std.specs.Prelude.{Err}
use mathlib.Core.Path.{◌≡◌, refl, sym, ap, subst, ◌∙◌}
use mathlib.Core.Logic.{◌↔◌, ◌⊎◌, inl, inr}
use mathlib.Core.Bool.{Bool, true, false, ◌&&◌}
use mathlib.Core.List.{List, [], ◌∷◌, ◌++◌}
use Prim.Native.Nat.{ℕ, zero, suc, ◌≤◌, ◌<◌}
use native.Mathlib.Omega.{arith}
use borrow.Author.Tests.{leb-true, leb-false}
use lib.Dec.{leb}
use lib.ListN.{length, get_or}
use Rattle.meaning.specs.declared.Node.{Node}
use Rattle.meaning.specs.Reading.{Reading, Accepted, Refused}
use Rattle.meaning.specs.Walk.{listed}
use Rattle.meaning.specs.Order.{need, and_then}
use Rattle.meaning.specs.Block.{limit}
use Rattle.meaning.specs.Document.{Doc, of_nodes}
use Rattle.meaning.specs.Nodes.{image_of, accept}
use Rattle.meaning.specs.Lent.{Lent, node_at, nodes_lent, long_enough, read_lent}
use Rattle.meaning.specs.Answer.{read_write}
use Rattle.meaning.proofs.Basics.{and_else}
use Rattle.meaning.proofs.Says.{says}
use Rattle.meaning.proofs.Orders.{contrary, refused_alike}
use Rattle.meaning.proofs.Walks.{map_listed}
use Rattle.meaning.proofs.Lines.{Line, line, each, each_from, joined, FirstDue, Says, need-says, need-broken, then_says}
use Rattle.meaning.proofs.Due.{Misplaced, Clashes, record_lines, document_lines}
use Rattle.meaning.proofs.DueDocument.{document-says}
use Rattle.meaning.proofs.DueCalls.{then_assoc}
use Rattle.writer.specs.Filling.{Reaches}

-- 1 of records without an image: none, or more than a document can have
pub data WrongCount (n : ℕ) : Type 0 where
  none : n ≡ 0 → WrongCount n
  too_many : limit < n → WrongCount n

-- THE ORDER OF THE CALL `write_nodes`: 1; 12 for a short column; what the document of the records is refused with; 12 for a short image
abbrev pub write_lines : ℕ → Lent → List ℕ → List Line
write_lines n c image =
    line 1 0 (WrongCount n)
    ∷ line 12 0 (Reaches n c → ⊥)
    ∷ (document_lines (of_nodes (nodes_lent n c)) ++ (line 12 0 (length image < length (image_of (nodes_lent n c))) ∷ []))

-- the columns are long enough exactly where the test says so
pub long_enough_lem : (n : ℕ) (c : Lent) → (long_enough n c ≡ true) ↔ Reaches n c
long_enough_lem n c = (
  λ e. let p = simp says at e in
      record { kind = omega arith; vkind = omega arith; name = omega arith; parent = omega arith; begin = omega arith; end = omega arith; value = omega arith; item = omega arith },
  λ r. simp says (((((((r.kind, r.vkind), r.name), r.parent), r.begin), r.end), r.value), r.item),
)

counts : (n : ℕ) → leb 1 n && leb n limit ≡ true → WrongCount n → ⊥
counts n e (none z) = let p = simp says at e in omega arith
counts n e (too_many m) = let p = simp says at e in omega arith

miscounts : (n : ℕ) → leb 1 n && leb n limit ≡ false → WrongCount n
miscounts n e = and_else (leb 1 n) (leb n limit) (λ z. none (omega (arith, leb-false 1 n z))) (λ z. too_many (leb-false n limit z)) e

-- the call is refused exactly as its lines are due
pub write_says : (n : ℕ) (c : Lent) (image : List ℕ) → Says (read_write n c image) (write_lines n c image)
unfolding read_write read_lent
write_says n c image =
    let doc = of_nodes (nodes_lent n c) in
    let count = need (leb 1 n && leb n limit) 1 0 in
    let columns = need (long_enough n c) 12 0 in
    let room = need (leb (length (image_of (nodes_lent n c))) (length image)) 12 0 in
    let order : and_then count (and_then columns (and_then (accept doc) room)) ≡ and_then (and_then count (and_then columns (accept doc))) room =
    ap (and_then count) (then_assoc columns (accept doc) room) ∙ then_assoc count (and_then columns (accept doc)) room in
    subst (λ x. Says x (write_lines n c image)) order
    (then_says count _ (need-says (leb 1 n && leb n limit) (counts n) (miscounts n))
    (λ a. then_says columns _ (need-broken (long_enough n c) (long_enough_lem n c))
    (λ b. then_says (accept doc) room (document-says doc)
    (λ d. need-says (leb (length (image_of (nodes_lent n c))) (length image)) (λ y l. omega (arith, leb-true (length (image_of (nodes_lent n c))) (length image) y)) (λ z. leb-false (length (image_of (nodes_lent n c))) (length image) z)))))

-- every line of these that is due has such a number
abbrev Numbered : (ℕ → Type 0) → List Line → Type 0
Numbered P [] = Unit {0}
Numbered P (l ∷ ls) = (l.due → P l.number) × Numbered P ls

module _ (P : ℕ → Type 0) where
  first-numbered : (a b : ℕ) (ls : List Line) → Numbered P ls → FirstDue a b ls → P a
  first-numbered a b [] w f = absurd f
  first-numbered a b (l ∷ ls) w (inl h) = subst P h.1 (w.0 h.0)
  first-numbered a b (l ∷ ls) w (inr h) = first-numbered a b ls w.1 h.1

  numbered-then : (ls ms : List Line) → Numbered P ls → Numbered P ms → Numbered P (ls ++ ms)
  numbered-then [] ms w v = v
  numbered-then (l ∷ ls) ms w v = (w.0, numbered-then ls ms w.1 v)

  numbered-each : (lines : ℕ → List Line) → ((i : ℕ) → Numbered P (lines i)) → (i n : ℕ) → Numbered P (each_from lines i n)
  unfolding each_from
  numbered-each lines w i zero = tt
  numbered-each lines w i (suc n) = numbered-then (lines i) _ (w i) (numbered-each lines w (suc i) n)

-- from 5 to 10
abbrev pub FiveToTen : ℕ → Type 0
FiveToTen a = (5 ≤ a) × (a ≤ 10)

-- a document without spare bytes is refused with 5 to 10
document-numbers : (doc : Doc) → ((i : ℕ) → doc.spare i ≡ 0) → (a b : ℕ) → accept doc ≡ Refused a b → FiveToTen a
unfolding joined
document-numbers doc spare a b e =
    let all = first-numbered FiveToTen a b (document_lines doc) in
    let sevens : ℕ → List Line = λ i. line 7 i (Misplaced doc i) ∷ [] in
    let nines : ℕ → List Line = λ i. line 9 i (Clashes doc i) ∷ [] in
    all
    (numbered-then FiveToTen (each doc.size (record_lines doc)) _ (numbered-each FiveToTen (record_lines doc) (λ i. (λ d. absurd (d (spare i)), (λ d. (omega arith, omega arith), (λ d. (omega arith, omega arith), (λ d. (omega arith, omega arith), tt))))) 0 doc.size)
    (numbered-then FiveToTen (each doc.size sevens) _ (numbered-each FiveToTen sevens (λ i. (λ d. (omega arith, omega arith), tt)) 0 doc.size)
    (numbered-then FiveToTen (each doc.size nines) _ (numbered-each FiveToTen nines (λ i. (λ d. (omega arith, omega arith), tt)) 0 doc.size)
    (λ d. (omega arith, omega arith), tt))))
    ((document-says doc).first a b e)

no_spare : (n i j : ℕ) → ◌≡◌ {A = ℕ} (get_or (listed (λ (k : ℕ). 0) j n) i 0) 0
unfolding listed
no_spare zero i j = refl
no_spare (suc n) zero j = refl
no_spare (suc n) (suc i) j = no_spare n i (suc j)

-- records in lent columns have none
pub lent-numbers : (n : ℕ) (c : Lent) (a b : ℕ) → accept (of_nodes (nodes_lent n c)) ≡ Refused a b → FiveToTen a
unfolding of_nodes nodes_lent
lent-numbers n c = document-numbers (of_nodes (nodes_lent n c)) (λ i. ap (λ (s : List ℕ). get_or s i 0) (map_listed (λ (m : Node). m.spare) (node_at c) 0 n) ∙ no_spare n i 0)

-- two tests, a reading and a last test: the number of the first that refuses
by_number : (t w : Bool) (y : Reading) (r : Bool) (a b : ℕ) → (y ≡ Refused a b → FiveToTen a)
    → and_then (and_then (need t 1 0) (and_then (need w 12 0) y)) (need r 12 0) ≡ Refused a b → (a ≡ 1) ⊎ ((a ≡ 12) ⊎ FiveToTen a)
by_number false w y r a b f e = inl (sym (refused_alike e).0)
by_number true false y r a b f e = inr (inl (sym (refused_alike e).0))
by_number true true (Err why) r a b f e = inr (inr (f e))
by_number true true Accepted false a b f e = inr (inl (sym (refused_alike e).0))
by_number true true Accepted true a b f e = absurd (contrary refl e)

-- the call is refused with 1, 12, or 5 to 10
pub write_numbers : (n : ℕ) (c : Lent) (image : List ℕ) (a b : ℕ) → read_write n c image ≡ Refused a b → (a ≡ 1) ⊎ ((a ≡ 12) ⊎ FiveToTen a)
unfolding read_write read_lent
write_numbers n c image a b =
    by_number (leb 1 n && leb n limit) (long_enough n c) (accept (of_nodes (nodes_lent n c))) (leb (length (image_of (nodes_lent n c))) (length image)) a b (lent-numbers n c a b)
