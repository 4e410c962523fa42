-- The slice of a day from the root down: which versions are come to, and the columns along which the code goes there.
use Rattle.std.specs.Prelude.{◌≡◌, Bool, true, false, ◌&&◌, ◌||◌, List, ℕ, zero, suc, ◌<◌, eqb, length, get_or}
use Rattle.meaning.specs.Block.{limit}
use Rattle.meaning.specs.Walk.{any}
use Rattle.meaning.specs.Document.{Doc, is_item, version_of}
use Rattle.meaning.specs.Day.{alive}
use Rattle.columns.specs.Chains.{past_last}
use Rattle.columns.specs.Lent.{Periods}
use Rattle.columns.specs.Judgeable.{Judgeable}

-- version v is the current one of item i on day d
unfoldable pub current_of : Doc → ℕ → ℕ → ℕ → Bool
current_of doc d i v = version_of doc i v && alive doc d v

-- item j stands in version v
unfoldable pub item_in : Doc → ℕ → ℕ → Bool
item_in doc v j = is_item doc j && eqb (doc.parent j) v

-- from item i, version w is come to in at most n items: it is current in i, or is come to from an item that stands in i's current version
unfoldable pub comes : Doc → ℕ → ℕ → ℕ → ℕ → Bool
comes doc d zero i w = false
comes doc d (suc n) i w =
    any (λ v. current_of doc d i v && (eqb v w || any (λ j. item_in doc v j && comes doc d n j w) 0 doc.size)) 0 doc.size

-- an item has one current version at most
pub record Single (doc : Doc) : Type 0 where
  pub one : (d i u v : ℕ) → current_of doc d i u ≡ true → current_of doc d i v ≡ true → u ≡ v

-- the versions of each item and the items in each version, chained, beside the periods, of a document that can be judged
pub record Linked (doc : Doc) (version-last version-lower item-last item-lower begins ends : List ℕ) : Type 0 where
  pub periods : Periods doc begins ends
  pub judgeable : Judgeable doc
  pub single : Single doc
  pub version_last_room : length version-last ≡ limit
  pub version_lower_room : length version-lower ≡ limit
  pub item_last_room : length item-last ≡ limit
  pub item_lower_room : length item-lower ≡ limit
  pub version_ends : (i : ℕ) → i < limit → get_or version-last i 0 ≡ past_last (version_of doc i) doc.size
  pub version_steps : (i v : ℕ) → i < limit → v < doc.size → version_of doc i v ≡ true → get_or version-lower v 0 ≡ past_last (version_of doc i) v
  pub item_ends : (v : ℕ) → v < limit → get_or item-last v 0 ≡ past_last (item_in doc v) doc.size
  pub item_steps : (v j : ℕ) → v < limit → j < doc.size → item_in doc v j ≡ true → get_or item-lower j 0 ≡ past_last (item_in doc v) j
