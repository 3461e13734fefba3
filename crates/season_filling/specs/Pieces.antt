-- Each way through the player's loop leaves the lines of the season's next turn.
-- Assumes nothing.
use Rattle.std.specs.Prelude.{◌≡◌, Bool, true, false, List, ◌∷◌, ℕ, suc, ◌-◌, ◌≤◌, ◌<◌, min, leb, ltb, length, get_or, set}
use Rattle.std.proofs.Common.{sym, ◌∙◌, arith, ltb-true}
use Rattle.std.proofs.Math.Path.{ap, subst}
use Rattle.std.proofs.Math.Option.{some}
use Rattle.lists.specs.Tests.{case}
use Rattle.lists.specs.Lists.{In}
use Rattle.text.specs.WrittenBytes.{Wrote, wrote_none, with_room}
use Rattle.paging.specs.Players.{Piece, Turned}
use Rattle.scheduler.specs.declared.Job.{Job}
use Rattle.scheduler.specs.declared.Outcome.{Outcome}
use Rattle.scheduler.specs.declared.Refusal.{Refusal}
use Rattle.scheduler.specs.declared.Scheduler.{Scheduler}
use Rattle.scheduler.specs.Limits.{horizon, slots}
use Rattle.scheduler.specs.Jobs.{unused, is_running}
use Rattle.scheduler.specs.Model.{view}
use Rattle.scheduler.specs.Answers.{Reply, accepts, code, outcome}
use Rattle.history.specs.Calls.{submit, tick, complete}
use Rattle.guarantees.specs.Rules.{call}
use Rattle.desk_lines.specs.Lines.{Line}
use Rattle.desk_lines.specs.LineLaws.{past, line_of, lines_from}
use Rattle.script_rules.specs.Writing.{no_row}
use Rattle.script_writing.specs.AnswerText.{page_bytes}
use Rattle.season_reading.specs.declared.Ahead.{Ahead}
use Rattle.season_reading.specs.declared.Listed.{Listed}
use Rattle.season_reading.specs.declared.Listed.TheVariants as listed
use Rattle.season_reading.specs.Meaning.{Reads, meaning, means}
use Rattle.season_rules.specs.declared.Arrival.{Arrival}
use Rattle.season_rules.specs.Reading.{most_lines, arrival_of}
use Rattle.season_rules.specs.Season.{Season, Turn, ends, refuses, arrives, steps, over, of_ticket, first_arrival, turn_of, text_of, text_by, order_of, arrival_next, arrival_refusal, highest_with}
use Rattle.season_laws.specs.Accepted.{tick_taken}
use Rattle.season_laws.specs.Progress.{Ready, Because, because, ends_because, refuses_because, arrives_because, steps_because}
use Rattle.season_laws.specs.EndedRows.{tick_text, end_text, submit_text}
use Rattle.season_play.specs.Places.{Place, place, going, closed, place_by, later_piece, season_of, InPlay, ready_of, line_left, within, taken_ticket, from_one}
use Rattle.season_turns.specs.declared.Coming.{Coming}
use Rattle.season_turns.specs.declared.Coming.TheVariants as coming
use Rattle.season_turns.specs.EndingSlot.{Ending}
use Rattle.season_turns.specs.NextTurn.{by_listed, coming_of}
use Rattle.season_turns.specs.DueRows.{job_row, due_rows}
use Rattle.season_filling.specs.Turns.{as_turn, some_live, row_same, due_same, next_is}

-- a slot that is found is one of the 64
lists_no_slot : (x : Listed) (highest clock i : ℕ) (live : Bool) → coming.Ends i ≡ by_listed x highest clock live → ⊥
lists_no_slot (listed.Is a) highest clock i live e =
    case (accepts (arrival_refusal highest a))
    (λ t. case (leb a.minute clock)
    (λ u. let w : coming.Ends i ≡ coming.Arrives a = (rw (t, u) at e) in let z : ◌≡◌ {A = ℕ} 0 1 = cc in omega arith)
    (λ u. let w : coming.Ends i ≡ coming.Steps a.minute = (rw (t, u) at e) in let z : ◌≡◌ {A = ℕ} 0 1 = cc in omega arith))
    (λ t. let w : coming.Ends i ≡ coming.Refuses (arrival_refusal highest a) = (rw t at e) in let z : ◌≡◌ {A = ℕ} 0 1 = cc in omega arith)
lists_no_slot listed.Malformed highest clock i live e = let z : ◌≡◌ {A = ℕ} 0 1 = cc in omega arith
lists_no_slot listed.None highest clock i live e =
    case live
    (λ t. let w : coming.Ends i ≡ coming.Steps horizon = (rw t at e) in let z : ◌≡◌ {A = ℕ} 0 1 = cc in omega arith)
    (λ t. let w : coming.Ends i ≡ coming.Over = (rw t at e) in let z : ◌≡◌ {A = ℕ} 0 1 = cc in omega arith)

pub ends_slot : (k : ℕ) (x : Listed) (highest clock i : ℕ) (live : Bool) → coming.Ends i ≡ coming_of k x highest clock live → i < slots
ends_slot k x highest clock i live e =
    case (ltb k slots)
    (λ b. let w : coming.Ends i ≡ coming.Ends k = (rw b at e) in let m : i ≡ k = cc in omega (arith, m, ltb-true k slots b))
    (λ b. absurd (lists_no_slot x highest clock i live (rw b at e)))

module _ (l : List ℕ) (at above highest : ℕ) (d : Scheduler) (xs ys : List ℕ) (q : InPlay l (place (going at above highest d) xs ys))
    {r : Ahead} (h : Reads l at above r) (k : ℕ) (e : Ending ys d k) where
  abbrev p : Place
  p = place (going at above highest d) xs ys

  abbrev s : Season
  s = season_of l p

  abbrev found : Coming
  found = coming_of k r.listed highest d.clock (some_live l p q)

  ready : Ready s
  ready = ready_of l p q

  turn_is : (c : Coming) → c ≡ found → turn_of s ≡ as_turn l p q c
  turn_is c f = sym (next_is l p q h k e) ∙ ap (as_turn l p q) (sym f)

  turned_by : {page after : List ℕ} {out end : ℕ} (t : Turn) → turn_of s ≡ t → Wrote page_bytes page out (text_by s t) after end
      → Turned page_bytes (later_piece l p) page out after end (place_by l p t)
  unfolding later_piece
  turned_by {page} {after} {out} {end} t f w =
      record { play_is = ap (place_by l p) (sym f); lines = subst (λ (x : Turn). Wrote page_bytes page out (text_by s x) after end) (sym f) w }

  turned_as : {page after : List ℕ} {out end : ℕ} {x : Piece Place} {a b : Place} → a ≡ b → Turned page_bytes x page out after end b
      → Turned page_bytes x page out after end a
  turned_as {page} {after} {out} {end} {x} f t = subst (Turned page_bytes x page out after end) (sym f) t

  wrote_as : {most : ℕ} {page after : List ℕ} {out end : ℕ} {a b : List ℕ} → a ≡ b → Wrote most page out a after end → Wrote most page out b after end
  wrote_as {most} {page} {after} {out} {end} f w = subst (λ (t : List ℕ). Wrote most page out t after end) f w

  why : (c : Coming) → c ≡ found → Because s (as_turn l p q c)
  why c f = subst (Because s) (turn_is c f) (because s ready.valid)

  -- ## A job ends at its actual run length

  module _ (i : ℕ) (f : coming.Ends i ≡ found) where
    abbrev pub j : Job
    j = get_or d.jobs i unused

    runs : In j s.model.jobs × (is_running j ≡ true)
    runs = ends_because s j (why (coming.Ends i) f)

    pub ends_turned : {page after : List ℕ} {out end a b : ℕ} (o : Outcome) → o ≡ outcome (call (view d) (complete j.ticket))
        → a ≡ of_ticket xs j.ticket → b ≡ of_ticket ys j.ticket → Wrote 33 page out (job_row d.settings a b j) after end
        → Turned page_bytes (later_piece l p) page out after end (place (going at above highest o.scheduler) xs ys)
    ends_turned {a = a} {b = b} o g x y w =
        let t : job_row d.settings a b j ≡ text_by s (ends j)
        = (λ n. job_row d.settings (x n) (y n) j) ∙ sym (row_same l p q j runs.0) ∙ sym (end_text s ready j runs.0 runs.1) in
        turned_as (ap (λ (z : Outcome). place (going at above highest z.scheduler) xs ys) g)
        (turned_by (ends j) (turn_is (coming.Ends i) f) (with_room (wrote_as t w) page_bytes (omega arith)))

  -- ## A line is done with

  -- where the next one begins, and the highest arrival then
  module _ {at' above' highest' : ℕ} (a-is : at' ≡ r.next) (b-is : above' ≡ min (suc above) most_lines) (h-is : highest' ≡ highest_with highest (meaning r.listed))
      (x : Line) (zs : List Line) (g : s.lines ≡ x ∷ zs) where
    some_left : at < length l
    some_left = line_left l p q x zs g

    says : meaning r.listed ≡ arrival_next s
    says = ap meaning (h.in_list some_left).0 ∙ means (arrival_of above (line_of l at)) ∙ sym (ap (first_arrival above) (lines_from l at some_left))

    done_is : (d' : Scheduler) (us vs : List ℕ)
        → place (going at' above' highest' d') us vs ≡ place (going (past l at) (min (suc above) most_lines) (highest_with highest (arrival_next s)) d') us vs
    done_is d' us vs =
        λ i. place (going ((a-is ∙ (h.in_list some_left).1) i) (b-is i) ((h-is ∙ ap (highest_with highest) says) i) d') us vs

  module _ {at' above' highest' : ℕ} (a-is : at' ≡ r.next) (b-is : above' ≡ min (suc above) most_lines) (h-is : highest' ≡ highest_with highest (meaning r.listed)) where
    -- a line is refused
    pub refuses_turned : {page after : List ℕ} {out end : ℕ} (v : Refusal) → coming.Refuses v ≡ found → Wrote page_bytes page out (no_row (code v)) after end
        → Turned page_bytes (later_piece l p) page out after end (place (going at' above' highest' d) xs ys)
    refuses_turned v f w =
        let b = refuses_because s v (why (coming.Refuses v) f) in
        turned_as (done_is a-is b-is h-is b.0 b.1 b.2 d xs ys) (turned_by (refuses v) (turn_is (coming.Refuses v) f) w)

    -- a job arrives
    module _ (a : Arrival) (f : coming.Arrives a ≡ found) (o : Outcome) (g : o ≡ outcome (call (view d) (submit (order_of a)))) where
      why_arrives : (y : Line) × (zs : List Line) × (s.lines ≡ y ∷ zs) × (arrival_of above y ≡ some a)
      why_arrives = arrives_because s a (why (coming.Arrives a) f)

      abbrev reply : Reply
      reply = (call (view d) (submit (order_of a))).reply

      abbrev there : (us vs : List ℕ) → Place
      there us vs = place (going (past l at) (min (suc above) most_lines) (highest_with highest (arrival_next s)) (outcome (call (view d) (submit (order_of a)))).scheduler) us vs

      done_arrives : (us vs : List ℕ) → place (going at' above' highest' o.scheduler) us vs ≡ there us vs
      done_arrives us vs =
          let b = why_arrives in
          ap (λ (z : Outcome). place (going at' above' highest' z.scheduler) us vs) g
          ∙ done_is a-is b-is h-is b.0 b.1 b.2 (outcome (call (view d) (submit (order_of a)))).scheduler us vs

      answer_is : o.answer.refusal ≡ (call (view d) (submit (order_of a))).reply.refusal
      answer_is = ap (λ (z : Outcome). z.answer.refusal) g

      ticket_is : o.answer.ticket ≡ (call (view d) (submit (order_of a))).reply.ticket
      ticket_is = ap (λ (z : Outcome). z.answer.ticket) g

      noted_taken : accepts reply.refusal ≡ true → place_by l p (arrives a) ≡ there (set xs (reply.ticket - 1) a.minute) (set ys (reply.ticket - 1) a.actual)
      noted_taken u = rw u

      not_noted : accepts reply.refusal ≡ false → place_by l p (arrives a) ≡ there xs ys
      not_noted u = rw u

      refused_text : accepts reply.refusal ≡ false → no_row (code o.answer.refusal) ≡ text_by s (arrives a)
      unfolding text_of
      refused_text u = rw u (ap (λ (v : Refusal). no_row (code v)) answer_is)

      pub taken_turned : (page : List ℕ) (out : ℕ) {us vs : List ℕ} → us ≡ set xs (o.answer.ticket - 1) a.minute → vs ≡ set ys (o.answer.ticket - 1) a.actual
          → accepts o.answer.refusal ≡ true
          → Turned page_bytes (later_piece l p) page out page out (place (going at' above' highest' o.scheduler) us vs)
      taken_turned page out {us} {vs} u-is v-is t =
          let u : accepts (call (view d) (submit (order_of a))).reply.refusal ≡ true = sym (ap accepts answer_is) ∙ t in
          turned_as
          (done_arrives us vs
          ∙ (λ i. there (u-is i) (v-is i))
          ∙ (λ i. there (set xs (ticket_is i - 1) a.minute) (set ys (ticket_is i - 1) a.actual))
          ∙ sym (noted_taken u))
          (turned_by (arrives a) (turn_is (coming.Arrives a) f) (wrote_as (sym (submit_text s ready (order_of a) u)) (wrote_none page_bytes page out)))

      pub turned_away : {page after : List ℕ} {out end : ℕ} → accepts o.answer.refusal ≡ false → Wrote page_bytes page out (no_row (code o.answer.refusal)) after end
          → Turned page_bytes (later_piece l p) page out after end (place (going at' above' highest' o.scheduler) xs ys)
      turned_away t w =
          let u : accepts reply.refusal ≡ false = sym (ap accepts answer_is) ∙ t in
          turned_as (done_arrives xs ys ∙ sym (not_noted u)) (turned_by (arrives a) (turn_is (coming.Arrives a) f) (wrote_as (refused_text u) w))

      -- its ticket has a place in the lists
      pub ticket_range : accepts o.answer.refusal ≡ true → (1 ≤ o.answer.ticket) × (o.answer.ticket ≤ 4096)
      ticket_range t =
          let b = why_arrives in
          let u : accepts (call (view d) (submit (order_of a))).reply.refusal ≡ true = sym (ap accepts answer_is) ∙ t in
          let n : o.answer.ticket ≡ d.next = ticket_is ∙ taken_ticket l p q a b.0 b.1 b.2 b.3 u in
          (omega (arith, n, from_one l p q a b.0 b.1 b.2 b.3), omega (arith, n, within l p q a b.0 b.1 b.2 b.3, q.few))

  -- ## A minute passes, or the season is over

  pub steps_turned : {page after : List ℕ} {out end : ℕ} (n : ℕ) → coming.Steps n ≡ found → (o : Outcome) → o ≡ outcome (call (view d) tick)
      → Wrote page_bytes page out (due_rows xs ys d) after end
      → Turned page_bytes (later_piece l p) page out after end (place (going at above highest o.scheduler) xs ys)
  steps_turned n f o g w =
      let a = tick_taken s.model (steps_because s (why (coming.Steps n) f)) in
      turned_as (ap (λ (z : Outcome). place (going at above highest z.scheduler) xs ys) g)
      (turned_by steps (turn_is (coming.Steps n) f) (wrote_as (sym (tick_text s ready a ∙ due_same l p q)) w))

  pub over_turned : (page : List ℕ) (out : ℕ) → coming.Over ≡ found → Turned page_bytes (later_piece l p) page out page out (closed p)
  over_turned page out f = turned_by over (turn_is coming.Over f) (wrote_none page_bytes page out)
