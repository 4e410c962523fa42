-- Lines read one after the other, and their records entered in columns: none yet, one more, a line that is not in the form, all.
use mathlib.Core.Path.{◌≡◌, refl, sym, ap, ◌∙◌}
use mathlib.Core.Bool.{Bool, true, false, cond}
use mathlib.Core.List.{List, [], ◌∷◌, ◌++◌, append_assoc, append-nil, map}
use Prim.Native.Nat.{ℕ, suc, ◌+◌, ◌-◌, ◌≤◌, ◌<◌}
use native.Mathlib.Omega.{arith}
use lib.IntN.{ℤ, pos}
use lib.Signed.{mag}
use lib.ListN.{length, get_or, drop, set, length-append, length-map, length-set}
use lib.Dec.{eqb}
use lib.Seq.{drop-cons, set_at}
use Rattle.meaning.specs.declared.Node.{Node}
use Rattle.meaning.specs.Lent.{Lent, lent}
use Rattle.std.specs.Prelude.{Option, Some, None, Result, Err}
use Rattle.typed.specs.declared.BadLine.{BadLine}
use Rattle.typed.specs.Numeral.{number_at, value_at}
use Rattle.typed.specs.Listing.{on_number, on_value, line_at, Lines, records, bad, before, on_line, lines_at, told}
use Rattle.typed.specs.Entered.{entered, Entered, Room, LinesRead}
use Rattle.typed.proofs.Scans.{value-fits}

-- the value of a line's record
abbrev value_of : Option (Node × ℕ) → ℤ
value_of (Some line) = line.0.value
value_of None = pos 0

-- its spare bytes
abbrev spare_of : Option (Node × ℕ) → ℕ
spare_of (Some line) = line.0.spare
spare_of None = 0

-- a line in the form has each of its numbers
module _ {node : Node} {next : ℕ} {P : Type 0} where
  took : (s : Option (ℕ × ℕ)) {f : ℕ → ℕ → Option (Node × ℕ)} → ((x k : ℕ) → f x k ≡ Some (node, next) → P) → on_number s f ≡ Some (node, next) → P
  took (Some (x, k)) g e = g x k e
  took None g e = let wrong : ◌≡◌ {A = ℕ} 0 1 = cc in absurd (omega arith)

  took_value : (s : Option (ℤ × ℕ)) {f : ℤ → ℕ → Option (Node × ℕ)} → ((z : ℤ) (k : ℕ) → s ≡ Some (z, k) → f z k ≡ Some (node, next) → P) → on_value s f ≡ Some (node, next) → P
  took_value (Some (z, k)) g e = g z k refl e
  took_value None g e = let wrong : ◌≡◌ {A = ℕ} 0 1 = cc in absurd (omega arith)

-- its value is an i32, and its spare bytes are 0
pub record Sound (node : Node) : Type 0 where
  pub fits : mag node.value < 2147483648
  pub spare : node.spare ≡ 0

pub line-sound : (text : List ℕ) (at : ℕ) {node : Node} {next : ℕ} → line_at text at ≡ Some (node, next) → Sound node
unfolding line_at
line-sound text at =
    took (number_at text at 255 32) (λ _ a.
    took (number_at text a 255 32) (λ _ b.
    took (number_at text b 65535 32) (λ _ c.
    took (number_at text c 65535 32) (λ _ d.
    took (number_at text d 65535 32) (λ _ e.
    took (number_at text e 65535 32) (λ _ f.
    took_value (value_at text f 32) (λ z g v.
    took (number_at text g 4294967295 10) (λ _ h q.
    let same : z ≡ _ = ap value_of q in
    record { fits = rw same at (value-fits text f 32 v); spare = sym (ap spare_of q) }))))))))

-- records before those of the lines that are left
abbrev pub front : List Node → Lines → Lines
front ns (records rest) = records (ns ++ rest)
front ns (bad k) = bad k

-- none before them
front_none : (l : Lines) → front [] l ≡ l
front_none (records rest) = refl
front_none (bad k) = refl

-- one more before them is one less in them
front_more : (ns : List Node) (node : Node) (l : Lines) → front (ns ++ (node ∷ [])) l ≡ front ns (before node l)
front_more ns node (records rest) = ap records (append_assoc ns (node ∷ []) rest)
front_more ns node (bad k) = refl

-- the answer is that of the lines that are left
front_told : (n : ℕ) (ns : List Node) (l : Lines) → (told n (front ns l)).answer ≡ (told n l).answer
front_told n ns (records rest) = refl
front_told n ns (bad k) = refl

-- where no line is left and the text ends, the records before are all
front_all : (t : Bool) (k : ℕ) {ns ms : List Node} → front ns (cond t (records []) (bad k)) ≡ records ms → ns ≡ ms
front_all true k {ns} {ms} e = let same : ns ++ [] ≡ ms = cc in sym (append-nil ns) ∙ same
front_all false k e = let wrong : ◌≡◌ {A = ℕ} 0 1 = cc in absurd (omega arith)

-- one field of one record more
module _ {A : Type 0} (field : Node → A) where
  map_more : (ns : List Node) (node : Node) → map field (ns ++ (node ∷ [])) ≡ map field ns ++ (field node ∷ [])
  map_more [] node = refl
  map_more (n ∷ ns) node = ap (λ l. field n ∷ l) (map_more ns node)

  entered-none : (old : List A) → old ≡ entered field [] old
  unfolding entered
  entered-none old = refl

  entered-more : (ns : List Node) (i : ℕ) (node : Node) (old : List A) {out : List A} {x : A} → length ns ≡ i → i < length old → out ≡ entered field ns old → x ≡ field node
      → set out i x ≡ entered field (ns ++ (node ∷ [])) old
  unfolding entered
  entered-more ns i node old many room e p =
      let long : length (ns ++ (node ∷ [])) ≡ suc i = omega (arith, length-append ns (node ∷ [])) in
      rw (e, p, long, many, map_more ns node, drop-cons old i (field node) room, append_assoc (map field ns) (field node ∷ []) (drop (suc i) old))
      (set_at (map field ns) (get_or old i (field node)) (drop (suc i) old) (field node) i (length-map ns field ∙ many))

-- no record is entered
pub entered-nothing : (old : Lent) → Entered [] old old
entered-nothing old =
    record {
      kind = entered-none (λ (m : Node). m.kind) old.kind;
      vkind = entered-none (λ (m : Node). m.vkind) old.vkind;
      name = entered-none (λ (m : Node). m.name) old.name;
      parent = entered-none (λ (m : Node). m.parent) old.parent;
      begin = entered-none (λ (m : Node). m.begin) old.begin;
      end = entered-none (λ (m : Node). m.end) old.end;
      value = entered-none (λ (m : Node). m.value) old.value;
      item = entered-none (λ (m : Node). m.item) old.item;
    }

-- eight columns are as long as they were
pub record Sized (old new : Lent) : Type 0 where
  pub kind : length new.kind ≡ length old.kind
  pub vkind : length new.vkind ≡ length old.vkind
  pub name : length new.name ≡ length old.name
  pub parent : length new.parent ≡ length old.parent
  pub begin : length new.begin ≡ length old.begin
  pub end : length new.end ≡ length old.end
  pub value : length new.value ≡ length old.value
  pub item : length new.item ≡ length old.item

-- i of the n lines are read: their records stand in the columns, and with those of the lines that are left they are all
pub record Filling (text : List ℕ) (from n : ℕ) (old new : Lent) (at i : ℕ) : Type 0 where
  pub some : i ≤ n
  pub sized : Sized old new
  pub listed : List Node
  pub many : length listed ≡ i
  pub rest : front listed (lines_at text at (i + 2) (n - i)) ≡ lines_at text from 2 n
  pub columns : Entered listed old new

-- no line is read yet
pub filling_none : (text : List ℕ) (from n : ℕ) (old : Lent) → Filling text from n old old from 0
filling_none text from n old =
    record {
      some = omega arith;
      sized = record { kind = refl; vkind = refl; name = refl; parent = refl; begin = refl; end = refl; value = refl; item = refl };
      listed = [];
      many = refl;
      rest = let e : n - 0 ≡ n = omega arith in rw e (front_none (lines_at text from 2 n));
      columns = entered-nothing old;
    }

module _ {text : List ℕ} {from n : ℕ} {old new : Lent} {at i : ℕ} (s : Filling text from n old new at i) where
  -- the lines that are left, where there is one
  next-line : i < n → front s.listed (on_line (line_at text at) (i + 2) (λ node next. before node (lines_at text next (i + 1 + 2) (n - (i + 1))))) ≡ lines_at text from 2 n
  unfolding lines_at
  next-line here =
      let left : n - i ≡ suc (n - (i + 1)) = omega arith in
      let line : i + 1 + 2 ≡ suc (i + 2) = omega arith in
      rw line (rw left at s.rest)

  -- a line with a record; the value is stored as an i32 that is equal to the record's
  pub filling_more : i < n → Room n old → {node : Node} {next : ℕ} → line_at text at ≡ Some (node, next) → {z : ℤ} → z ≡ node.value
      → Filling text from n old
      (lent (set new.kind i node.kind) (set new.vkind i node.vkind) (set new.name i node.name) (set new.parent i node.parent) (set new.begin i node.begin) (set new.end i node.end) (set new.value i z) (set new.item i node.item))
      next (i + 1)
  filling_more here room {node} {next} e {z} q =
      let c = s.columns in
      let m = s.many in
      let l = s.sized in
      record {
        some = omega arith;
        sized = record {
          kind = length-set new.kind i node.kind ∙ l.kind;
          vkind = length-set new.vkind i node.vkind ∙ l.vkind;
          name = length-set new.name i node.name ∙ l.name;
          parent = length-set new.parent i node.parent ∙ l.parent;
          begin = length-set new.begin i node.begin ∙ l.begin;
          end = length-set new.end i node.end ∙ l.end;
          value = length-set new.value i z ∙ l.value;
          item = length-set new.item i node.item ∙ l.item;
        };
        listed = s.listed ++ (node ∷ []);
        many = omega (arith, length-append s.listed (node ∷ []));
        rest = front_more s.listed node (lines_at text next (i + 1 + 2) (n - (i + 1))) ∙ rw e at (next-line here);
        columns = record {
          kind = entered-more (λ (x : Node). x.kind) s.listed i node old.kind m (omega (arith, room.kind)) c.kind refl;
          vkind = entered-more (λ (x : Node). x.vkind) s.listed i node old.vkind m (omega (arith, room.vkind)) c.vkind refl;
          name = entered-more (λ (x : Node). x.name) s.listed i node old.name m (omega (arith, room.name)) c.name refl;
          parent = entered-more (λ (x : Node). x.parent) s.listed i node old.parent m (omega (arith, room.parent)) c.parent refl;
          begin = entered-more (λ (x : Node). x.begin) s.listed i node old.begin m (omega (arith, room.begin)) c.begin refl;
          end = entered-more (λ (x : Node). x.end) s.listed i node old.end m (omega (arith, room.end)) c.end refl;
          value = entered-more (λ (x : Node). x.value) s.listed i node old.value m (omega (arith, room.value)) c.value q;
          item = entered-more (λ (x : Node). x.item) s.listed i node old.item m (omega (arith, room.item)) c.item refl;
        };
      }

  -- a line that is not in the form
  pub filling_bad : i < n → line_at text at ≡ None → LinesRead text from n old (Err (record { line = i + 2 })) new
  filling_bad here e =
      let all : bad (i + 2) ≡ lines_at text from 2 n = rw e at (next-line here) in
      record { answer = rw (← all) refl; columns = λ ns g. let wrong : ◌≡◌ {A = ℕ} 0 1 = cc in absurd (omega arith) }

  -- no line is left
  pub filling_all : n ≤ i → {r : Result ℕ BadLine} → r ≡ (told n (lines_at text at (n + 2) 0)).answer → LinesRead text from n old r new
  unfolding lines_at
  filling_all past {r} e =
      let same : i ≡ n = omega (arith, s.some) in
      let none : n - i ≡ 0 = omega arith in
      let all : front s.listed (lines_at text at (n + 2) 0) ≡ lines_at text from 2 n = rw (none, same) at s.rest in
      record {
        answer = e ∙ sym (front_told n s.listed (lines_at text at (n + 2) 0)) ∙ ap (λ l. (told n l).answer) all;
        columns = λ ns g. rw (front_all (eqb at (length text)) (n + 2) (all ∙ g)) at s.columns;
      }
