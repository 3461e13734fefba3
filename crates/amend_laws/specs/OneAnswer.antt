-- The one answer of a corrected order has room for its tickets, and loses nothing. Where the order grows, the jobs that the withdrawal starts are
-- live after it, so that a place is left for the new one.
-- Assumes nothing.
use Rattle.std.specs.Prelude.{ℕ, ◌≤◌, ◌≡◌, true, ◌++◌, eqb, length}
use Rattle.std.proofs.Common.{arith, ap, ⊎_elim, length-append}
use Rattle.std.proofs.Math.Option.{Option, none, some}
use Rattle.std.proofs.lemmas.List.{length-map}
use Rattle.lists.specs.Tests.{case}
use Rattle.lists.specs.Lists.{length_keep_le}
use Rattle.scheduler.specs.declared.Kind.{Kind}
use Rattle.scheduler.specs.declared.Kind.TheVariants.{Conservative, Easy}
use Rattle.scheduler.specs.declared.Submission.{Submission}
use Rattle.scheduler.specs.declared.Amendment.{Amendment}
use Rattle.scheduler.specs.declared.Departure.TheVariants.{Cancel}
use Rattle.scheduler.specs.declared.Select.TheVariants as select
use Rattle.scheduler.specs.Jobs.{is_waiting}
use Rattle.scheduler.specs.Table.{remaining}
use Rattle.scheduler.specs.Model.{Model, without}
use Rattle.scheduler.specs.Answers.{Result, Forecast, accepts, answer, reply_of}
use Rattle.scheduler.specs.Refusals.{depart_refusal}
use Rattle.scheduler.specs.Amending.{order_for}
use Rattle.jobs.specs.Judgement.{judged_by, judged_accepted}
use Rattle.jobs.specs.Soundness.{early, submit_fit, fit_room, sound_leave}
use Rattle.history.specs.Calls.{submit, cancel, amend}
use Rattle.conservative_rules.specs.Conservative as conservative
use Rattle.conservative_laws.specs.Validity as conservative-valid
use Rattle.conservative_laws.specs.Validity.{zip_length, Follows}
use Rattle.conservative_laws.specs.Compression.{left_compressible, compressed_is}
use Rattle.conservative_laws.specs.Obligations.{conservative_lawful}
use Rattle.easy_rules.specs.Easy as easy
use Rattle.easy_laws.specs.Settling.{settles, settles_jobs, marks}
use Rattle.easy_laws.specs.Noted.{notes, noted_jobs}
use Rattle.easy_laws.specs.Validity as easy-valid
use Rattle.easy_laws.specs.Obligations.{easy_lawful}
use Rattle.easy_laws.specs.OwnStart.{taken_in, starts_one}
use Rattle.guarantees.specs.Rules.{call}
use Rattle.guarantees.specs.Premise.{ValidBy, Valid, valid_sound, call_valid}
use Rattle.guarantees.specs.Replies.{head_ticket_lem, replied_back}
use Rattle.guarantees.specs.TicketCounts.{FitsAnswer, begun_few, settle_few, refused_fits, call_fits}
use Rattle.amend_rules.specs.Amending.{hears, amended}
use Rattle.amend_laws.specs.Counting.{amended_by, both_calls}

-- ## Room for its tickets

-- those that a call starts are no more than are live after it
abbrev Few : Result → Type 0
Few r = length r.reply.started ≤ length r.model.jobs

conservative_few : (m : Model) (t : ℕ) → conservative-valid.Valid m → Few (conservative.call m (cancel t))
unfolding conservative.call conservative.departed conservative.advanced
conservative_few m t v =
    judged_by Few m (depart_refusal m Cancel t) (conservative.departed m Cancel t)
    (λ a.
    let js = remaining m.settings m.clock (select.Departing Cancel t) m.jobs in
    let ks = conservative.compressed m.settings m.clock js in
    let p = compressed_is m.settings m.clock js (left_compressible m Cancel t v) in
    omega (arith, begun_few js ks, zip_length (Follows m.clock) js ks p.follow))
    (λ a. omega arith)

easy_few : (m : Model) (t : ℕ) → easy-valid.Valid m → Few (easy.call m (cancel t))
unfolding easy.call easy.advanced easy.finished
easy_few m t v =
    judged_by Few m (depart_refusal m Cancel t) (easy.advanced m m.clock (select.Departing Cancel t))
    (λ a.
    let n = without m m.clock (select.Departing Cancel t) in
    let s = settles n (sound_leave m m.clock (select.Departing Cancel t) v.ready.sound (early Cancel t)) in
    omega (
      arith,
      settle_few (length (easy.queue n.jobs)) n,
      length_keep_le is_waiting n.jobs,
      ap length (settles_jobs s),
      length-map n.jobs (marks n.clock (easy.settled n).started),
      ap length (noted_jobs (easy.forecast m (easy.settled n).model) (easy.settled n).model),
      length-map (easy.settled n).model.jobs (notes (easy.forecast m (easy.settled n).model)),
    ))
    (λ a. omega arith)

-- and a submission starts one at most, where a place was left
abbrev Room : Result → Result → Type 0
Room w r = accepts r.reply.refusal ≡ true → length (w.reply.started ++ r.reply.started) ≤ 64

conservative_room : (m : Model) (t : ℕ) (o : Submission) → conservative-valid.Valid m
    → Room (conservative.call m (cancel t)) (conservative.call (conservative.call m (cancel t)).model (submit o))
unfolding conservative.call conservative.submit_refusal conservative.submitted
conservative_room m t o v x =
    let R = conservative.call in
    let n = (R m (cancel t)).model in
    let s = conservative.planned n o in
    let a = judged_accepted n (conservative.submit_refusal n o s) (conservative.submitted n o s) x in
    let one : length (conservative.submitted n o s).reply.started ≤ 1 = case (eqb s n.clock) (λ e. rw e (omega arith)) (λ e. rw e (omega arith)) in
    omega (
      arith,
      length-append (R m (cancel t)).reply.started (R n (submit o)).reply.started,
      conservative_few m t v,
      fit_room n o (conservative_lawful.valid m (cancel t) v).sound (submit_fit n o _ a.0).0,
      ap (λ (r : Result). length r.reply.started) a.1,
    )

easy_room : (m : Model) (t : ℕ) (o : Submission) → easy-valid.Valid m
    → Room (easy.call m (cancel t)) (easy.call (easy.call m (cancel t)).model (submit o))
easy_room m t o v x =
    let R = easy.call in
    let n = (R m (cancel t)).model in
    let u : easy-valid.Valid n = easy_lawful.valid m (cancel t) v in
    let one : length (R n (submit o)).reply.started ≤ 1 = ⊎_elim (λ y. omega (arith, ap length y)) (λ y. omega (arith, ap length y)) (starts_one n o u x) in
    omega (
      arith,
      length-append (R m (cancel t)).reply.started (R n (submit o)).reply.started,
      easy_few m t v,
      fit_room n o u.ready.sound (taken_in n o x).fit,
    )

room_by : (k : Kind) (m : Model) (t : ℕ) (o : Submission) → ValidBy k m → Room (call m (cancel t)) (call (call m (cancel t)).model (submit o))
room_by Conservative m t o v = both_calls conservative_lawful Room m t o v (conservative_room m t o v)
room_by Easy m t o v = both_calls easy_lawful Room m t o v (easy_room m t o v)

pub amended_fits : (m : Model) (a : Amendment) → Valid m → FitsAnswer (amended call m a)
amended_fits m a v =
    amended_by call m a (λ x cs. FitsAnswer x) (λ r n. refused_fits m r) (λ j e g x. call_fits m (amend a) (valid_sound m v))
    (λ j e g x. record { ended = omega arith; started = room_by m.settings.kind m a.ticket (order_for a j) v x })

-- ## Nothing is lost

-- what the answer of the code says is its reply
pub amended_back : (m : Model) (a : Amendment) → Valid m → reply_of (answer (amended call m a).reply) ≡ (amended call m a).reply
amended_back m a v =
    replied_back (amended call m a).reply
    (amended_by call m a (λ x cs. (f : Forecast) → x.reply.head ≡ some f → 1 ≤ f.ticket) (λ r n f e. absurd (no_head f e))
    (λ j e g x. head_ticket_lem m (amend a) v)
    (λ j e g x.
    let w = call m (cancel a.ticket) in
    either w.reply.head (call w.model (submit (order_for a j))).reply.head (head_ticket_lem m (cancel a.ticket) v)
    (head_ticket_lem w.model (submit (order_for a j)) (call_valid m (cancel a.ticket) v))))
  where
    no_head : (f : Forecast) → none ≡ some f → ⊥
    no_head f e = let z : ◌≡◌ {A = ℕ} 0 1 = cc in omega arith

    either : (g h : Option Forecast) → ((f : Forecast) → g ≡ some f → 1 ≤ f.ticket) → ((f : Forecast) → h ≡ some f → 1 ≤ f.ticket) → (f : Forecast)
        → hears g h ≡ some f → 1 ≤ f.ticket
    either none h p q = q
    either (some f) h p q = p
