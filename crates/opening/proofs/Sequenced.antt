-- How two images and the number of a rule that must be sequenced are read: a refusal of either image, no such rule, a rule in windows, or accepted.
use mathlib.Core.Path.{◌≡◌}
use mathlib.Core.Logic.{◌↔◌}
use mathlib.Core.List.{List}
use Prim.Native.Nat.{ℕ, ◌≤◌, ◌<◌}
use lib.ListN.{length}
use borrow.Author.Tests.{lt-ltb, le-ltb, ne_eqb}
use Rattle.meaning.specs.Reading.{Accepted, Refused}
use Rattle.meaning.specs.Nodes.{read_nodes}
use Rattle.meaning.specs.Rules.{rule_at, rules_of, read_rules}
use Rattle.meaning.specs.Answer.{read_changes}
use Rattle.meaning.proofs.Says.{says}
use Rattle.columns.specs.declared.Columns.{Columns}
use Rattle.opening.specs.Opening.{Opens}
use Rattle.opening.proofs.Opens.{still, refused_both}

module _ (nodes rules : List ℕ) (k : ℕ) where
  pub changes_read : (read_changes nodes rules k ≡ Accepted) ↔ ((read_nodes nodes ≡ Accepted) × ((read_rules rules ≡ Accepted) × ((k < length (rules_of rules)) × ((rule_at (rules_of rules) k).windowed ≡ 0))))
  unfolding read_changes
  changes_read = (λ e. simp says at e, λ w. simp says w)

  pub changes_read_nodes : (a b : ℕ) → read_nodes nodes ≡ Refused a b → read_changes nodes rules k ≡ Refused a b
  unfolding read_changes
  changes_read_nodes a b h = rw h

  pub changes_read_rules : read_nodes nodes ≡ Accepted → (a b : ℕ) → read_rules rules ≡ Refused a b → read_changes nodes rules k ≡ Refused a b
  unfolding read_changes
  changes_read_rules n a b h = rw (n, h)

  pub changes_read_none : read_nodes nodes ≡ Accepted → read_rules rules ≡ Accepted → length (rules_of rules) ≤ k → read_changes nodes rules k ≡ Refused 11 0
  unfolding read_changes
  changes_read_none n r h = rw (n, r, le-ltb k (length (rules_of rules)) h)

  pub changes_read_windowed : read_nodes nodes ≡ Accepted → read_rules rules ≡ Accepted → k < length (rules_of rules) → ((rule_at (rules_of rules) k).windowed ≡ 0 → ⊥) → read_changes nodes rules k ≡ Refused 11 0
  unfolding read_changes
  changes_read_windowed n r h w = rw (n, r, lt-ltb k (length (rules_of rules)) h, ne_eqb (rule_at (rules_of rules) k).windowed 0 w)

  -- a refusal of either image, known from what was opened
  pub changes_read_opened : {c : Columns} → Opens nodes rules c → {a b : ℕ} → c.loaded ≡ Refused a b → read_changes nodes rules k ≡ Refused a b
  unfolding read_changes
  changes_read_opened o r = still (read_nodes nodes) (read_rules rules) _ (refused_both rules o r)
