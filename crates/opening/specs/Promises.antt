-- What the calls on images, of either engine, promise of their answer x and of the lent list `after`wards: those of the meaning, told by 01's number and values.
use Rattle.std.specs.Prelude.{◌≡◌, List, ℕ, Result}
use Rattle.meaning.specs.declared.Verdict.{Verdict}
use Rattle.meaning.specs.declared.Refusal.{Refusal}
use Rattle.meaning.specs.Answer.{tell_verdict, tell_listed, verdict, sequenced_verdict, slice_answer, slice_lent, changes_answer, changes_lent}

abbrev pub VerdictPromise : List ℕ → List ℕ → ℕ → Result Verdict Refusal → Type 0
VerdictPromise nodes rules k x = tell_verdict x ≡ tell_verdict (verdict nodes rules k)

-- of the engine that judges sequenced rules alone
abbrev pub SequencedPromise : List ℕ → List ℕ → ℕ → Result Verdict Refusal → Type 0
SequencedPromise nodes rules k x = tell_verdict x ≡ tell_verdict (sequenced_verdict nodes rules k)

abbrev pub SlicePromise : List ℕ → ℕ → List ℕ → Result ℕ Refusal → List ℕ → Type 0
SlicePromise nodes d lent x after = (tell_listed x ≡ tell_listed (slice_answer nodes d lent)) × (after ≡ slice_lent nodes d lent)

abbrev pub ChangesPromise : List ℕ → List ℕ → ℕ → List ℕ → Result ℕ Refusal → List ℕ → Type 0
ChangesPromise nodes rules k lent x after = (tell_listed x ≡ tell_listed (changes_answer nodes rules k lent)) × (after ≡ changes_lent nodes rules k lent)
