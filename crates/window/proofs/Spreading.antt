-- The lists laid out for a rule of each kind are what its windows are worked out from.
use mathlib.Core.Path.{◌≡◌}
use mathlib.Core.Bool.{true}
use mathlib.Core.List.{List}
use Prim.Native.Nat.{ℕ, ◌≤◌}
use native.Mathlib.Omega.{arith}
use lib.Dec.{ltb}
use lib.IntN.{ℤ}
use lib.ListN.{length, get_or}
use Rattle.meaning.specs.declared.Rule.{Rule}
use Rattle.meaning.specs.Block.{limit}
use Rattle.meaning.specs.Document.{Doc, is_version}
use Rattle.meaning.specs.Rules.{rule_fields}
use Rattle.meaning.proofs.Tables.{rule_row}
use Rattle.columns.specs.Lent.{Values, Periods}
use Rattle.prepare.specs.Holders.{Skips}
use Rattle.prepare.specs.Keys.{Keys}
use Rattle.prepare.specs.Rows.{Rows}
use Rattle.groups.specs.Groups.{Groups, Gathered}
use Rattle.orders.specs.Order.{InOrder}
use Rattle.steps.specs.Places.{Closing}
use Rattle.steps.specs.Reaching.{Reaches}
use Rattle.window.specs.Spread.{Spread}

-- a rule that fits its table has a path of few steps
pub steps-few : (r : Rule) → rule_fields r ≡ true → r.steps ≤ 8
steps-few r f = ((rule_row r).0 f).path.steps_most

module _ {doc : Doc} {r : Rule} where
  -- what the reaches of a datatype are worked out from, along the order by end
  pub closing : {kinds vkinds : List ℕ} {values : List ℤ} {begins ends keys groups closes : List ℕ} → Values doc kinds vkinds values → Periods doc begins ends
      → Keys doc r keys → Groups doc groups → length closes ≤ limit → InOrder (is_version doc) ends closes (length closes)
      → Closing doc r vkinds values begins ends keys groups closes
  closing {closes = closes} v w k g few o =
      record {
        vkind = v.vkind;
        value = v.value;
        periods = w;
        rows = k;
        classes = g;
        few = few;
        order = record {
          stands = λ x e. (o.place x, (o.all x e).0, (o.all x e).1);
          version = λ j h. (o.once j h).0;
          rising = λ i j h m. rw (← w.end.at (get_or closes i 0), ← w.end.at (get_or closes j 0)) (o.rising i j h m);
        };
      }

  module _ {start : ℕ} {next last lower groups : List ℕ} where
    -- for a cardinality its way and the chains of the item numbers
    pub spread-counted : {first past : List ℕ} → r.kind ≡ 4 → Rows doc r start next first past → Gathered doc r groups last lower → Spread doc r start next last lower groups
    spread-counted k s g = record { rows = λ h. absurd (omega arith); counting = λ e. (s.skips, g); stepping = λ e. absurd (omega arith) }

    -- for a datatype the reaches and the way along them
    pub spread-stepped : (n : ℕ) → n ≡ doc.size → r.kind ≡ 5 → Skips (λ f. ltb 0 (get_or last f 0)) n start next → Reaches doc r last → Spread doc r start next last lower groups
    spread-stepped n all k s g = record { rows = λ h. absurd (omega arith); counting = λ e. absurd (omega arith); stepping = λ e. (rw all at s, g) }

    -- for any other kind its rows
    pub spread-rows : (r.kind ≡ 4 → ⊥) → (r.kind ≡ 5 → ⊥) → Rows doc r start next last lower → Spread doc r start next last lower groups
    spread-rows a b s = record { rows = λ h. s; counting = λ e. absurd (a e); stepping = λ e. absurd (b e) }
