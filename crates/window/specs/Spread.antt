-- What the lists laid out for a non-sequenced rule hold, by the rule's kind.
use Rattle.std.specs.Prelude.{◌≡◌, List, ℕ, ◌≤◌, ltb, get_or}
use Rattle.meaning.specs.declared.Rule.{Rule}
use Rattle.meaning.specs.Document.{Doc}
use Rattle.meaning.specs.Select.{selected}
use Rattle.prepare.specs.Holders.{Skips}
use Rattle.prepare.specs.Rows.{Rows}
use Rattle.groups.specs.Groups.{Gathered}
use Rattle.steps.specs.Reaching.{Reaches}

-- up to a reference the rule's rows; for a cardinality the way along its selected versions and the chains of field versions under one item
-- number; for a datatype the way along the field versions with a reach, and the reaches in `last`
pub record Spread (doc : Doc) (r : Rule) (start : ℕ) (next last lower groups : List ℕ) : Type 0 where
  pub rows : r.kind ≤ 3 → Rows doc r start next last lower
  pub counting : r.kind ≡ 4 → Skips (selected doc r) doc.size start next × Gathered doc r groups last lower
  pub stepping : r.kind ≡ 5 → Skips (λ f. ltb 0 (get_or last f 0)) doc.size start next × Reaches doc r last
