-- The ways out of `change_days`: a refusal of either image, no such rule, a rule that is not sequenced, and the list.
use mathlib.Core.Path.{◌≡◌, refl, sym, ap, ◌∙◌}
use mathlib.Core.Bool.{true}
use mathlib.Core.List.{List}
use Prim.Native.Nat.{ℕ, ◌-◌, ◌≤◌, ◌<◌}
use native.Mathlib.Omega.{arith}
use lib.ListN.{length, take}
use Rattle.meaning.specs.declared.Rule.{Rule}
use Rattle.std.specs.Prelude.{Result, Ok}
use Rattle.meaning.specs.declared.Refusal.{Refusal}
use Rattle.meaning.specs.Reading.{Refused, Accepted}
use Rattle.meaning.specs.Document.{Doc}
use Rattle.meaning.specs.Nodes.{doc_of, read_nodes}
use Rattle.meaning.specs.Rules.{is_reference, rule_at, rules_of, read_rules}
use Rattle.meaning.specs.Day.{change_days}
use Rattle.meaning.specs.Answer.{referred_by, storing, lent_after, read_changes, changes_of, changes_answer, changes_lent}
use Rattle.columns.specs.Lent.{Tree, Periods, AllOf}
use Rattle.columns.specs.declared.Records.{Records}
use Rattle.columns.specs.declared.Columns.{Columns}
use Rattle.rules.specs.Table.{Table, referred_or}
use Rattle.rules.proofs.Tables.{refers_to}
use Rattle.lists.specs.Lending.{Turnable, TurnableIn, TreeFront, PeriodsFront}
use Rattle.opening.specs.Promises.{ChangesPromise}
use Rattle.opening.specs.Opening.{Opens}
use Rattle.opening.proofs.Opens.{accepted-both, open_fronts}
use Rattle.opening.proofs.Sequenced.{changes_read, changes_read_none, changes_read_windowed, changes_read_opened}

module _ (nodes rules : List ℕ) (k : ℕ) (lent : List ℕ) where
  abbrev Right : Result ℕ Refusal → List ℕ → Type 0
  Right = ChangesPromise nodes rules k lent

  -- refused while reading
  by-reading : {a b : ℕ} → read_changes nodes rules k ≡ Refused a b → Right (Refused a b) lent
  unfolding changes_answer changes_lent storing
  by-reading e = rw e (refl, refl)

  module _ {c : Columns} (o : Opens nodes rules c) where
    pub changes_refused : {a b : ℕ} → c.loaded ≡ Refused a b → Right (Refused a b) lent
    changes_refused r = by-reading (changes_read_opened nodes rules k o r)

    module _ {n : ℕ} (r : c.loaded ≡ Ok n) {m : ℕ} (t : Table rules m) where
      abbrev ok : (read_nodes nodes ≡ Accepted) × (read_rules rules ≡ Accepted)
      ok = accepted-both rules o r

      pub changes_none : m ≤ k → Right (Refused 11 0) lent
      changes_none h = by-reading (changes_read_none nodes rules k ok.0 ok.1 (omega (arith, t.count)))

      module _ (h : k < m) where
        pub rule_here : k < length (rules_of rules)
        rule_here = omega (arith, t.count)

        module _ {a : Rule} (ea : a ≡ rule_at (rules_of rules) k) where
          -- its windowed byte, as the table has it
          windowed : a.windowed ≡ (rule_at (rules_of rules) k).windowed
          windowed = ap (λ (x : Rule). x.windowed) ea

          pub changes_windowed : (a.windowed ≡ 0 → ⊥) → Right (Refused 11 0) lent
          changes_windowed w = by-reading (changes_read_windowed nodes rules k ok.0 ok.1 rule_here (λ e. w (windowed ∙ e)))

          pub turnable : Turnable n c.kind c.name c.parent c.begin c.end
          turnable =
              let f = open_fronts rules o r in
              record {
                kind = f.kind;
                name = f.name;
                parent = f.parent;
                begin = f.begin;
                end = f.end;
                doc = f.doc;
                tree = f.whole.tree;
                periods = f.whole.periods;
                judgeable = f.whole.judgeable;
              }

          -- what was stored for the columns' document is stored for the image's
          pub changes_stored : a.windowed ≡ 0 → {q : Rule} → q ≡ referred_or (rules_of rules) k → {y : Result ℕ Refusal} {out : List ℕ}
              → ((doc : Doc) (p : Rule) → Tree doc (take (n - 0) c.kind) (take (n - 0) c.name) (take (n - 0) c.parent) → Periods doc (take (n - 0) c.begin) (take (n - 0) c.end)
              → (is_reference a ≡ true → p ≡ q) → y ≡ storing Accepted (change_days doc p a) lent)
              → ((doc : Doc) (p : Rule) → Tree doc (take (n - 0) c.kind) (take (n - 0) c.name) (take (n - 0) c.parent) → Periods doc (take (n - 0) c.begin) (take (n - 0) c.end)
              → (is_reference a ≡ true → p ≡ q) → out ≡ lent_after y (change_days doc p a) lent)
              → Right y out
          unfolding changes_answer changes_lent changes_of
          changes_stored s {q = held} eq {y} {out} p l =
              let f = open_fronts rules o r in
              let doc = doc_of nodes in
              let q = referred_by (rules_of rules) k in
              let same : is_reference a ≡ true → q ≡ held = λ e. sym (refers_to (rules_of rules) k eq (ap is_reference (sym ea) ∙ e)) in
              let days : change_days doc q a ≡ change_days doc q (rule_at (rules_of rules) k) = ap (change_days doc q) ea in
              let answer = p doc q f.whole.tree f.whole.periods same ∙ ap (λ (x : List ℕ). storing Accepted x lent) days in
              let left = l doc q f.whole.tree f.whole.periods same ∙ ap (λ (x : List ℕ). lent_after y x lent) days in
              rw ((changes_read nodes rules k).1 (ok.0, (ok.1, (rule_here, sym windowed ∙ s))), sym answer) (refl, left)

          -- and for columns that are lent whole
          module _ {all : Records} (e : AllOf c all) where
            pub turnable_lent : TurnableIn n all
            turnable_lent = rw (e.kind, e.name, e.parent, e.begin, e.end) turnable

            pub changes-stored_lent : a.windowed ≡ 0 → {q : Rule} → q ≡ referred_or (rules_of rules) k → {y : Result ℕ Refusal} {out : List ℕ}
                → ((doc : Doc) (p : Rule) → TreeFront doc n all → PeriodsFront doc n all → (is_reference a ≡ true → p ≡ q) → y ≡ storing Accepted (change_days doc p a) lent)
                → ((doc : Doc) (p : Rule) → TreeFront doc n all → PeriodsFront doc n all → (is_reference a ≡ true → p ≡ q) → out ≡ lent_after y (change_days doc p a) lent)
                → Right y out
            changes-stored_lent s eq = rw (e.kind, e.name, e.parent, e.begin, e.end) (changes_stored s eq)
