-- Pinned examples of request 2 of 02: verdicts in windows that the period's end or the month table cuts short, each before the request and now.
use Rattle.meaning.specs.declared.Refusal.{Refusal}
use Rattle.std.specs.Prelude.{Result, Ok}
use mathlib.Core.Path.{◌≡◌, refl, ap, fun_ext, ◌∙◌}
use mathlib.Core.List.{List, [], ◌∷◌, map}
use Prim.Native.Nat.{ℕ}
use lib.ListN.{length}
use lib.Dec.{ltb}
use Rattle.meaning.specs.declared.Verdict.{Verdict}
use Rattle.meaning.specs.declared.Verdict.TheVariants.{Holds, Fails}
use Rattle.meaning.specs.Order.{need, and_then}
use Rattle.meaning.specs.Document.{of_nodes}
use Rattle.meaning.specs.Rules.{rule_at, rules_of, read_rules}
use Rattle.meaning.specs.Answer.{referred_by, verdict_after, read_verdict}
use Rattle.meaning.proofs.Asking.{on_rule, told}
use Rattle.meaning.proofs.Opened.{opened}
use Rattle.meaning.proofs.Writing.{days, months, distinct, nodes, table, written}
use Rattle.meaning.proofs.Pinning.{Posed, pose, Right}
use Rattle.meaning.proofs.Working.{after-laws, by-reading}
use Rattle.meaning.proofs.PinnedImages.{meter, meter_held}
use Rattle.meaning.proofs.PinnedWindows.{on_meter, losses}
use Rattle.meaning.proofs.Before.{cardinality_before, breaks_before, offender_before, judged_before, verdict_before}

-- a rule, the verdict on it before the request, and the verdict now
pub record Spared : Type 0 where
  pub rule : List ℕ
  pub before : Verdict
  pub now : Verdict

abbrev spare : List ℕ → Verdict → Verdict → Spared
spare rule before now = record { rule = rule; before = before; now = now }

-- the losses are on the days 5, 17, 28, 334, 365, 396, 424 and 429; months start on the days 305, 335, 366, 397, 425 and 456
unfoldable pub spared : List Spared
spared =
    -- the laboratory's rule: a loss a month, the period ending on 10 February 2001
    spare (months 1 1 (losses 1 9 305 406)) (Fails 397 3 4) (Holds 4)
    -- no loss in April 2001: the whole of it, and all but its last day
    ∷ spare (months 1 1 (losses 1 9 425 486)) (Fails 456 3 2) (Fails 456 3 2)
    ∷ spare (months 1 1 (losses 1 9 425 485)) (Fails 456 3 2) (Holds 2)
    -- the maximum stays, in a shortened month and in shortened days
    ∷ spare (months 1 1 (losses 0 0 425 430)) (Fails 425 3 1) (Fails 425 3 1)
    ∷ spare (days 10 10 (losses 0 0 20 29)) (Fails 20 3 1) (Fails 20 3 1)
    -- ten days: the window ends with the period, or a day later
    ∷ spare (days 10 10 (losses 1 9 0 40)) (Fails 30 3 4) (Fails 30 3 4)
    ∷ spare (days 10 10 (losses 1 9 0 39)) (Fails 30 3 4) (Holds 4)
    -- the last window of those that overlap, and every shortened one of them: [397,456) and [425,485)
    ∷ spare (months 2 1 (losses 2 2 305 425)) (Fails 397 3 4) (Holds 4)
    ∷ spare (months 2 1 (losses 3 9 397 430)) (Fails 397 3 1) (Holds 2)
    -- an earlier window is not freed by a shortened later one
    ∷ spare (days 10 10 (losses 1 9 8 45)) (Fails 18 3 2) (Fails 18 3 2)
    -- two months over the table's end, at the end of December 2099; one month ends with it
    ∷ spare (months 2 1 (losses 1 9 36494 36525)) (Fails 36494 3 1) (Holds 1)
    ∷ spare (months 1 1 (losses 1 9 36494 36525)) (Fails 36494 3 1) (Fails 36494 3 1)
    -- values that are counted once are freed too
    ∷ spare (distinct (months 1 1 (losses 1 9 305 406))) (Fails 397 3 4) (Holds 4)
    -- one window, the period itself, is never shortened
    ∷ spare (losses 1 9 397 406) (Fails 397 3 1) (Fails 397 3 1)
    ∷ []

-- the verdict asked for now
abbrev pub asks_now : Spared → Posed
asks_now s = pose (table (s.rule ∷ [])) (on_rule 0) (told (Ok s.now))

pub spared_now : Right (on_meter (map asks_now spared))
unfolding opened written spared meter
spared_now = by-reading (nodes meter) (of_nodes meter) meter_held (map asks_now spared) refl

-- the verdict before, the image of the meter being read once
unfoldable read_before : List ℕ → Result Verdict Refusal
read_before rules =
    verdict_after (and_then (read_rules rules) (need (ltb 0 (length (rules_of rules))) 11 0)) (judged_before (of_nodes meter) (referred_by (rules_of rules) 0) (rule_at (rules_of rules) 0))

before-read : (rules : List ℕ) → verdict_before (nodes meter) rules 0 ≡ read_before rules
unfolding verdict_before read_verdict read_before
before-read rules = rw (meter_held.nodes_read, meter_held.document)

pub spared_before : map (λ (s : Spared). verdict_before (nodes meter) (table (s.rule ∷ [])) 0) spared ≡ map (λ (s : Spared). Ok s.before) spared
unfolding opened written spared meter cardinality_before breaks_before offender_before judged_before read_before
spared_before = after-laws (ap (λ (f : Spared → Result Verdict Refusal). map f spared) (fun_ext (λ s. before-read (table (s.rule ∷ [])))) ∙ refl)
