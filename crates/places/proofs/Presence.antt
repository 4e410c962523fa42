-- PRESENCE, for other crates: a version is present at a place exactly when the place lies from its first place on and before the one past its
-- last; and on the days of a sequenced rule that is the same as being alive on the day.
use mathlib.Core.Path.{◌≡◌, ap}
use mathlib.Core.Logic.{◌↔◌, ⊎_elim}
use mathlib.Core.Bool.{true, ◌&&◌}
use Prim.Native.Nat.{ℕ, ◌+◌, ◌*◌, ◌≤◌, ◌<◌}
use native.Mathlib.Omega.{arith}
use lib.Dec.{leb, ltb}
use borrow.Author.Tests.{le-leb, lt-ltb, leb-true, ltb-true}
use Rattle.meaning.specs.declared.Rule.{Rule}
use Rattle.meaning.specs.Document.{Doc, is_version}
use Rattle.meaning.specs.Day.{alive}
use Rattle.meaning.specs.Window.{meets}
use Rattle.meaning.proofs.Basics.{le_or_lt, tests_same, and_l, and_r, both}
use Rattle.places.specs.declared.Places.{Places}
use Rattle.places.specs.Placing.{unit_day, start_of, end_of, window_at, Counted, Placed, on-days, whole_period, in_days, in_months, Low, High}
use Rattle.places.proofs.Days.{day-itself, least-left}

-- a later day has no earlier first place
pub low-rises : {at : Places} {b b' l l' : ℕ} → b ≤ b' → Low at b l → Low at b' l' → l ≤ l'
low-rises {l = l} {l' = l'} h p q =
    ⊎_elim (λ m. m) (λ m. absurd (omega (arith, p.most, p.before l' m, q.from l' (omega (arith, p.most)) (omega arith)))) (le_or_lt l l')

pub high-rises : {at : Places} {e e' h h' : ℕ} → e ≤ e' → High at e h → High at e' h' → h ≤ h'
high-rises {h = h} {h' = h'} r p q =
    ⊎_elim (λ m. m) (λ m. absurd (omega (arith, p.within h' m, q.past h' (omega (arith, p.most)) (omega arith)))) (le_or_lt h h')

-- so a day has one first place only
pub low-once : {at : Places} {b l l' : ℕ} → Low at b l → Low at b l' → l ≡ l'
low-once {b = b} p q = omega (arith, low-rises {b = b} (omega arith) p q, low-rises {b = b} (omega arith) q p)

pub high-once : {at : Places} {e h h' : ℕ} → High at e h → High at e h' → h ≡ h'
high-once {e = e} p q = omega (arith, high-rises {e = e} (omega arith) p q, high-rises {e = e} (omega arith) q p)

module _ {at : Places} {b e l h : ℕ} (low : Low at b l) (high : High at e h) (k : ℕ) (less : k < at.count) where
  -- the days from b up to e and place k share a day exactly when k lies from l on and before h
  pub shared : ((b < end_of at k) × (start_of at k < e)) ↔ ((l ≤ k) × (k < h))
  shared = (λ w. (from w.0, upto w.1), λ w. (low.from k less w.0, high.within k w.1))
    where
      from : b < end_of at k → l ≤ k
      from m = ⊎_elim (λ o. o) (λ o. absurd (omega (arith, low.before k o))) (le_or_lt l k)

      upto : start_of at k < e → k < h
      upto m = ⊎_elim (λ o. absurd (omega (arith, high.past k less o))) (λ o. o) (le_or_lt h k)

-- a version meets place k exactly then
module _ (doc : Doc) (v : ℕ) {at : Places} {l h : ℕ} (version : is_version doc v ≡ true) (low : Low at (doc.begin v) l) (high : High at (doc.end v) h) (k : ℕ) (less : k < at.count) where
  pub meets-there : meets doc (window_at at k) v ≡ true → (l ≤ k) × (k < h)
  unfolding meets
  meets-there t =
      let a = and_l _ (ltb (start_of at k) (doc.end v)) t in
      (shared low high k less).0 (
        ltb-true (doc.begin v) (end_of at k) (and_r (is_version doc v) (ltb (doc.begin v) (end_of at k)) a),
        ltb-true (start_of at k) (doc.end v) (and_r (is_version doc v && ltb (doc.begin v) (end_of at k)) (ltb (start_of at k) (doc.end v)) t),
      )

  pub there-meets : l ≤ k → k < h → meets doc (window_at at k) v ≡ true
  unfolding meets
  there-meets m n =
      let w = (shared low high k less).1 (m, n) in
      rw (version, lt-ltb (doc.begin v) (end_of at k) w.0, lt-ltb (start_of at k) (doc.end v) w.1)

  -- as tests
  pub meets-as : meets doc (window_at at k) v ≡ (leb l k && ltb k h)
  meets-as =
      tests_same _ _
      (λ t. let w = meets-there t in both (leb l k) (ltb k h) (le-leb l k w.0) (lt-ltb k h w.1))
      (λ t. there-meets (leb-true l k (and_l (leb l k) (ltb k h) t)) (ltb-true k h (and_r (leb l k) (ltb k h) t)))

-- a place of a sequenced rule is one day
pub one-day : {r : Rule} {at : Places} → r.windowed ≡ 0 → Placed r at → Counted at → (k : ℕ) → k < at.count → end_of at k ≡ start_of at k + 1
unfolding start_of end_of
one-day {at = at} s (on-days w m f p l c) n k less =
    let u = at.first + k * at.slide in
    let i = n.inside k less in
    let a = day-itself at.monthly u m in
    let b = day-itself at.monthly (u + at.span) m in
    omega (arith, a, b, p, i, least-left (unit_day at.monthly (u + at.span)) at.close (omega arith))
one-day s (whole_period w u m f p l c) n k less = absurd (w s)
one-day s (in_days w u m f p l c) n k less = absurd (w s)
one-day s (in_months w u m f p l c) n k less = absurd (w s)

-- up to a day, or before the next
by-next_day : (a b c : ℕ) → c ≡ b + 1 → leb a b ≡ ltb a c
by-next_day a b c e =
    tests_same _ _ (λ t. lt-ltb a c (omega (arith, leb-true a b t))) (λ t. le-leb a b (omega (arith, ltb-true a c t)))

-- so who is alive on that day is who meets it
pub alive-meets : {r : Rule} {at : Places} → r.windowed ≡ 0 → Placed r at → Counted at → (doc : Doc) (v k : ℕ) → k < at.count
    → alive doc (start_of at k) v ≡ meets doc (window_at at k) v
unfolding alive meets
alive-meets {at = at} s p n doc v k less =
    let t = by-next_day (doc.begin v) (start_of at k) (end_of at k) (one-day s p n k less) in
    ap (λ x. is_version doc v && x && ltb (start_of at k) (doc.end v)) t
