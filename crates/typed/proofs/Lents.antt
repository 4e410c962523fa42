-- The records in the first entries of the columns are those that the text lists.
use mathlib.Core.Path.{◌≡◌, refl, sym, ap, ◌∙◌}
use mathlib.Core.Bool.{Bool, true, false, ◌&&◌, cond}
use mathlib.Core.List.{List, [], ◌∷◌, map}
use Prim.Native.Nat.{ℕ, zero, suc, ◌+◌, ◌≤◌, ◌<◌}
use native.Mathlib.Omega.{arith}
use borrow.Author.Tests.{leb-false}
use lib.Dec.{leb, eqb}
use lib.IntN.{pos}
use lib.ListN.{length, get_or, drop, length-map, get_or-append, get_or-map}
use lib.Seq.{ext_get_or}
use Rattle.std.specs.Prelude.{Option, Some, None, Ok}
use Rattle.meaning.specs.declared.Node.{Node}
use Rattle.meaning.specs.Block.{limit}
use Rattle.meaning.specs.Lent.{Lent, node_at, nodes_lent}
use Rattle.meaning.proofs.Basics.{and_else}
use Rattle.meaning.proofs.Walks.{length_listed, get_d_listed}
use Rattle.typed.specs.Numeral.{top, number_at}
use Rattle.typed.specs.Listing.{line_at, Lines, records, bad, before, on_line, lines_at, told, on_count, text_of}
use Rattle.typed.specs.Entered.{entered, Entered}
use Rattle.typed.proofs.Filling.{line-sound}

-- a record of zeros
abbrev pub zeros : Node
zeros = record { kind = 0; vkind = 0; name = 0; parent = 0; begin = 0; end = 0; value = pos 0; item = 0; spare = 0 }

-- n records, whose spare bytes are 0
pub record Whole (n : ℕ) (ns : List Node) : Type 0 where
  pub many : length ns ≡ n
  pub spare : (i : ℕ) → (get_or ns i zeros).spare ≡ 0

-- no record
whole-none : Whole 0 []
whole-none = record { many = refl; spare = λ i. refl }

-- one record more
whole-more : {n : ℕ} {ns : List Node} {node : Node} → node.spare ≡ 0 → Whole n ns → Whole (suc n) (node ∷ ns)
whole-more {n} {ns} {node} e w = record { many = ap suc w.many; spare = spare }
  where
    spare : (i : ℕ) → (get_or (node ∷ ns) i zeros).spare ≡ 0
    spare zero = e
    spare (suc i) = w.spare i

-- the records of n lines
lines-whole : (text : List ℕ) (n at k : ℕ) {ns : List Node} → lines_at text at k n ≡ records ns → Whole n ns
unfolding lines_at
lines-whole text zero at k e = last (eqb at (length text)) e
  where
    last : (t : Bool) {ns : List Node} → cond t (records []) (bad k) ≡ records ns → Whole 0 ns
    last true {ns} f = let same : [] ≡ ns = cc in rw (← same) whole-none
    last false f = let wrong : ◌≡◌ {A = ℕ} 0 1 = cc in absurd (omega arith)
lines-whole text (suc n) at k {ns} e = line (line_at text at) refl e (λ next ms f. lines-whole text n next (suc k) f)
  where
    rest : (node : Node) (l : Lines) → node.spare ≡ 0 → before node l ≡ records ns → ((ms : List Node) → l ≡ records ms → Whole n ms) → Whole (suc n) ns
    rest node (records ms) s f w = let same : node ∷ ms ≡ ns = cc in rw (← same) (whole-more s (w ms refl))
    rest node (bad j) s f w = let wrong : ◌≡◌ {A = ℕ} 0 1 = cc in absurd (omega arith)

    line : (l : Option (Node × ℕ)) → line_at text at ≡ l → on_line l k (λ node next. before node (lines_at text next (suc k) n)) ≡ records ns
        → ((next : ℕ) (ms : List Node) → lines_at text next (suc k) n ≡ records ms → Whole n ms) → Whole (suc n) ns
    line (Some (node, next)) f g w = rest node (lines_at text next (suc k) n) (line-sound text at f).spare g (w next)
    line None f g w = let wrong : ◌≡◌ {A = ℕ} 0 1 = cc in absurd (omega arith)

-- as many as the text says, where it says no more than a document can have
pub text-whole : (text : List ℕ) {n : ℕ} → (text_of text).answer ≡ Ok n → n ≤ limit → Whole n (text_of text).listed
unfolding text_of
text-whole text {n} e few = first (number_at text 0 top 10) e
  where
    lines : (m : ℕ) (l : Lines) → ((ns : List Node) → l ≡ records ns → Whole m ns) → (told m l).answer ≡ Ok n → Whole n (told m l).listed
    lines m (records ns) w f = let same : m ≡ n = cc in rw (← same) (w ns refl)
    lines m (bad k) w f = let wrong : ◌≡◌ {A = ℕ} 0 1 = cc in absurd (omega arith)

    none : (m : ℕ) → m ≡ n → leb 1 m && leb m limit ≡ false → n ≡ 0
    none m same t = and_else (leb 1 m) (leb m limit) (λ a. omega (arith, leb-false 1 m a)) (λ b. absurd (omega (arith, leb-false m limit b))) t

    counted : (t : Bool) (m next : ℕ) → leb 1 m && leb m limit ≡ t → (cond t (told m (lines_at text next 2 m)) (record { answer = Ok m; listed = [] })).answer ≡ Ok n
        → Whole n (cond t (told m (lines_at text next 2 m)) (record { answer = Ok m; listed = [] })).listed
    counted true m next t f = lines m (lines_at text next 2 m) (λ ns g. lines-whole text m next 2 g) f
    counted false m next t f = let same : m ≡ n = cc in rw (none m same t) whole-none

    first : (s : Option (ℕ × ℕ)) → (on_count text s).answer ≡ Ok n → Whole n (on_count text s).listed
    first (Some (m, next)) f = counted (leb 1 m && leb m limit) m next refl f
    first None f = let wrong : ◌≡◌ {A = ℕ} 0 1 = cc in absurd (omega arith)

-- an entry of a column is the field of its record
entry : {A : Type 0} (field : Node → A) (ns : List Node) (old : List A) {column : List A} → column ≡ entered field ns old → (i : ℕ) → i < length ns
    → get_or column i (field zeros) ≡ field (get_or ns i zeros)
unfolding entered
entry field ns old e i h =
    rw e (get_or-append (map field ns) (drop (length ns) old) (field zeros) i (omega (arith, length-map ns field)) ∙ get_or-map field ns i zeros)

module _ {n : ℕ} {ns : List Node} (w : Whole n ns) {old new : Lent} (c : Entered ns old new) where
  -- record i of the columns
  node-entered : (i : ℕ) → i < length ns → node_at new i ≡ get_or ns i zeros
  node-entered i h =
      let kind = entry (λ (m : Node). m.kind) ns old.kind c.kind i h in
      let vkind = entry (λ (m : Node). m.vkind) ns old.vkind c.vkind i h in
      let name = entry (λ (m : Node). m.name) ns old.name c.name i h in
      let parent = entry (λ (m : Node). m.parent) ns old.parent c.parent i h in
      let begin = entry (λ (m : Node). m.begin) ns old.begin c.begin i h in
      let end = entry (λ (m : Node). m.end) ns old.end c.end i h in
      let value = entry (λ (m : Node). m.value) ns old.value c.value i h in
      let item = entry (λ (m : Node). m.item) ns old.item c.item i h in
      let spare = sym (w.spare i) in
      λ j. record { kind = kind j; vkind = vkind j; name = name j; parent = parent j; begin = begin j; end = end j; value = value j; item = item j; spare = spare j }

  -- all of them
  pub nodes_entered : nodes_lent n new ≡ ns
  unfolding nodes_lent
  nodes_entered =
      let long = length_listed (node_at new) 0 n in
      ext_get_or zeros (nodes_lent n new) ns (long ∙ sym w.many)
      (λ i h. let z : 0 + i ≡ i = omega arith in get_d_listed (node_at new) 0 n i zeros (omega arith) ∙ rw z (node-entered i (omega (arith, w.many))))
