-- Chains through the records of one kind that share a key: what the code that builds them promises.
use Rattle.std.specs.Prelude.{ℕ, zero, suc, ◌<◌, ◌≤◌, ◌≡◌, Bool, true, ◌&&◌, cond, List, [], eqb, length, get_or}
use Rattle.meaning.specs.Document.{Doc, columns, is_item}

-- one past the last of the numbers below t that pass, 0 where none does
unfoldable pub past_last : (ℕ → Bool) → ℕ → ℕ
past_last f zero = 0
past_last f (suc t) = let rest = past_last f t in cond (f t) (suc t) rest

-- record r is of the kind and has the key
abbrev pub keyed : List ℕ → List ℕ → ℕ → ℕ → ℕ → Bool
keyed kinds keys want key r = eqb (get_or kinds r 0) want && eqb (get_or keys r 0) key

-- the first t records, chained by keys below `room`: `last` leads from a key to the last record with it, `lower` from a record to the next
-- lower one with its key; both are counted from one, and 0 leads to none
pub record Chained (room : ℕ) (kinds keys : List ℕ) (want t : ℕ) (last lower : List ℕ) : Type 0 where
  pub fits : t ≤ room
  pub last_room : length last ≡ room
  pub lower_room : length lower ≡ room
  pub ends : (k : ℕ) → k < room → get_or last k 0 ≡ past_last (keyed kinds keys want k) t
  pub steps : (k r : ℕ) → k < room → r < t → keyed kinds keys want k r ≡ true → get_or lower r 0 ≡ past_last (keyed kinds keys want k) r

-- a key for each number: below `room`, and the same for equal numbers
pub record Grouped (room : ℕ) (numbers keys : List ℕ) : Type 0 where
  pub key_room : length keys ≡ room
  pub small : (i : ℕ) → i < length numbers → get_or keys i 0 < room
  pub same : (i j : ℕ) → i < length numbers → j < length numbers → get_or numbers j 0 ≡ get_or numbers i 0 → get_or keys j 0 ≡ get_or keys i 0

-- `twin` chains the items by a key that items of one number share
pub record Twins (doc : Doc) (twin : List ℕ) : Type 0 where
  pub room : doc.size ≤ length twin
  pub key : ℕ → ℕ
  pub same : (i j : ℕ) → i < doc.size → j < doc.size → doc.item j ≡ doc.item i → key j ≡ key i
  pub steps : (i : ℕ) → i < doc.size → is_item doc i ≡ true → get_or twin i 0 ≡ past_last (λ j. is_item doc j && eqb (key j) (key i)) i

-- the document of which kinds and item numbers alone are told
abbrev pub numbered : List ℕ → List ℕ → Doc
numbered kinds items = columns kinds [] [] [] [] [] [] items []

-- j is an item with the number of item i: a lower one, or i itself, and then no lower item has it
pub record Namesake (doc : Doc) (i j : ℕ) : Type 0 where
  pub low : j ≤ i
  pub item : doc.kind j ≡ 1
  pub number : doc.item j ≡ doc.item i
  pub none : j ≡ i → (k : ℕ) → k < i → doc.kind k ≡ 1 → doc.item k ≡ doc.item i → ⊥
