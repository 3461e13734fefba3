-- Where the player of a season stands, and the season that this stands for: each turn of the player is a turn of the season.
-- Assumes nothing.
use Rattle.std.proofs.Math.Path.{◌≡◌, refl, ap}
use Rattle.std.proofs.Common.{sym, subst, ◌∙◌, arith, length-set, drop_of_length-le, take-suc-set}
use Rattle.std.specs.Prelude.{true, false, cond, ℕ, suc, ◌+◌, ◌-◌, ◌≤◌, ◌<◌, min, leb, ltb, length, take, drop, set}
use mathlib.Core.List.{List, [], ◌∷◌, ◌++◌}
use Rattle.std.proofs.Math.Option.{Option, none, some}
use borrow.Author.Tests.{leb-true, leb-false, ltb-true}
use Rattle.lists.specs.Tests.{case, true_false}
use Rattle.lists.specs.Lists.{In}
use Rattle.scheduler.specs.declared.Job.{Job}
use Rattle.scheduler.specs.declared.Scheduler.{Scheduler}
use Rattle.scheduler.specs.Model.{Model, view, store}
use Rattle.scheduler.specs.Answers.{Reply, accepts, outcome}
use Rattle.history.specs.Calls.{Call, submit, tick, complete}
use Rattle.history.specs.News.{Newcomer}
use Rattle.history.specs.Tickets.{next_after}
use Rattle.history_proof.specs.Obligations.{said}
use Rattle.guarantees.specs.Rules.{call}
use Rattle.guarantees.specs.Premise.{Premise, call_premise, valid_view, call_valid, premise_sound}
use Rattle.desk_lines.specs.Lines.{Line, lines_of}
use Rattle.desk_lines.specs.LineLaws.{past, lines_from, past_line}
use Rattle.script_play.specs.declared.Stage.TheVariants.{Playing, Over}
use Rattle.paging.specs.Players.{Piece, piece}
use Rattle.season_rules.specs.declared.Arrival.{Arrival}
use Rattle.season_rules.specs.Reading.{most_lines, arrival_of}
use Rattle.season_rules.specs.Season as season
use Rattle.season_rules.specs.Season.{Season, Turn, ends, refuses, arrives, steps, over, turn_of, text_by, season_by, is_over, order_of, arrival_next, highest_with, noted, next_line}
use Rattle.season_laws.specs.Ended.{next_is, depart_came, tick_came, submit_came, ticket_is}
use Rattle.season_laws.specs.Progress.{Ready, Because, refused, arriving, because, next_ready}
use Rattle.season_play.specs.declared.Standing.{Standing}

pub record Place : Type 0 where
  pub standing : Standing
  -- the minutes of arrival and the actual run lengths of the jobs taken in, by ticket; past the last ticket given they say nothing
  pub arrivals : List ℕ
  pub actuals : List ℕ

abbrev pub place : Standing → (arrivals actuals : List ℕ) → Place
place g xs ys = record { standing = g; arrivals = xs; actuals = ys }

-- how many tickets have been given
abbrev pub given : Scheduler → ℕ
given d = d.next - 1

abbrev pub season_of : List ℕ → Place → Season
season_of l p =
    let g = p.standing in
    record {
      model = view g.scheduler;
      lines = lines_of (drop g.at l);
      above = g.above;
      highest = g.highest;
      arrivals = take (given g.scheduler) p.arrivals;
      actuals = take (given g.scheduler) p.actuals;
    }

-- ## The next piece

abbrev pub going : (at above highest : ℕ) → Scheduler → Standing
going at above highest d = record { stage = Playing; at = at; above = above; highest = highest; scheduler = d }

abbrev pub called : Place → Call → Place
called p c =
    let g = p.standing in
    record {
      standing = going g.at g.above g.highest (outcome (call (view g.scheduler) c)).scheduler;
      arrivals = p.arrivals;
      actuals = p.actuals;
    }

-- the next line is done with, which says this
abbrev pub line_done : List ℕ → Option Arrival → Place → Place
line_done l a p =
    let g = p.standing in
    record {
      standing = going (past l g.at) (min (suc g.above) most_lines) (highest_with g.highest a) g.scheduler;
      arrivals = p.arrivals;
      actuals = p.actuals;
    }

-- a job taken in is noted under its ticket
abbrev pub noted_at : Arrival → Reply → Place → Place
noted_at a r p =
    cond
    (accepts r.refusal)
    (record { standing = p.standing; arrivals = set p.arrivals (r.ticket - 1) a.minute; actuals = set p.actuals (r.ticket - 1) a.actual })
    p

abbrev pub closed : Place → Place
closed p =
    let g = p.standing in
    record {
      standing = record { stage = Over; at = g.at; above = g.above; highest = g.highest; scheduler = g.scheduler };
      arrivals = p.arrivals;
      actuals = p.actuals;
    }

abbrev pub place_by : List ℕ → Place → Turn → Place
place_by l p (ends j) = called p (complete j.ticket)
place_by l p (refuses r) = line_done l (arrival_next (season_of l p)) p
place_by l p (arrives a) =
    noted_at a (call (view p.standing.scheduler) (submit (order_of a))).reply (line_done l (arrival_next (season_of l p)) (called p (submit (order_of a))))
place_by l p steps = called p tick
place_by l p over = closed p

unfoldable pub later_piece : List ℕ → Place → Piece Place
later_piece l p = let s = season_of l p in piece (text_by s (turn_of s)) (place_by l p (turn_of s))

-- ## What holds all along

pub record InPlay (l : List ℕ) (p : Place) : Type 0 where
  pub premise : Premise p.standing.scheduler
  pub no_least : (j : Job) → In j (view p.standing.scheduler).jobs → j.least ≡ 0
  pub inside : p.standing.at ≤ length l
  -- a line gives at most one ticket, and past the last line of the list none is given
  pub few : p.standing.scheduler.next ≤ suc p.standing.above
  pub most : p.standing.scheduler.next ≤ suc most_lines
  pub arrivals_whole : length p.arrivals ≡ most_lines
  pub actuals_whole : length p.actuals ≡ most_lines

pub ready_of : (l : List ℕ) (p : Place) → InPlay l p → Ready (season_of l p)
ready_of l p q = record { valid = q.premise.holds; no_least = q.no_least }

-- ## Each turn is one of the season

module _ (l : List ℕ) (p : Place) (q : InPlay l p) where
  abbrev d : Scheduler
  d = p.standing.scheduler

  abbrev m : Model
  m = view d

  -- what a call leaves is read back
  model_after : (c : Call) → view (store (call m c).model) ≡ (call m c).model
  model_after c = valid_view (call m c).model (call_valid m c q.premise.holds)

  -- how many tickets have been given then
  given_after : (c : Call) → (store (call m c).model).next ≡ (call m c).model.next
  unfolding store
  given_after c = refl

  same_given : (c : Call) → (said call m c).came ≡ [] → (store (call m c).model).next ≡ d.next
  unfolding store view
  same_given c e = next_is m c q.premise.holds ∙ ap (λ (xs : List Newcomer). next_after xs m.next) e

  -- a call that brings nobody
  call_season : (c : Call) → (said call m c).came ≡ [] → season_of l (called p c) ≡ season.after (season_of l p) (call m c)
  call_season c e = λ i. record {
    model = model_after c i;
    lines = lines_of (drop p.standing.at l);
    above = p.standing.above;
    highest = p.standing.highest;
    arrivals = take (same_given c e i - 1) p.arrivals;
    actuals = take (same_given c e i - 1) p.actuals;
  }

  -- a line is left
  pub line_left : (x : Line) (xs : List Line) → lines_of (drop p.standing.at l) ≡ x ∷ xs → p.standing.at < length l
  unfolding lines_of
  line_left x xs e =
      case (leb (length l) p.standing.at)
      (λ h. absurd (let w : [] ≡ x ∷ xs = ap lines_of (sym (drop_of_length-le l (leb-true (length l) p.standing.at h))) ∙ e in let z : ◌≡◌ {A = ℕ} 0 1 = cc in omega arith))
      (λ h. leb-false (length l) p.standing.at h)

  line_rest : (x : Line) (xs : List Line) → lines_of (drop p.standing.at l) ≡ x ∷ xs
      → lines_of (drop (past l p.standing.at) l) ≡ season.rest (lines_of (drop p.standing.at l))
  line_rest x xs e = sym (ap season.rest (lines_from l p.standing.at (line_left x xs e)))

  -- an arrival
  module _ (a : Arrival) (x : Line) (xs : List Line) (e : lines_of (drop p.standing.at l) ≡ x ∷ xs) (f : arrival_of p.standing.above x ≡ some a) where
    abbrev c : Call
    c = submit (order_of a)

    pub within : p.standing.above < most_lines
    within =
        case (ltb p.standing.above most_lines)
        (λ h. ltb-true p.standing.above most_lines h)
        (λ h. absurd (let w : none ≡ some a = (rw h at f) in let z : ◌≡◌ {A = ℕ} 0 1 = cc in omega arith))

    taken_next : accepts (call m c).reply.refusal ≡ true → (store (call m c).model).next ≡ suc d.next
    unfolding store view
    taken_next t = next_is m c q.premise.holds ∙ ap (λ (ys : List Newcomer). next_after ys m.next) (submit_came m (order_of a) t)

    -- its ticket is the next
    pub taken_ticket : accepts (call m c).reply.refusal ≡ true → (call m c).reply.ticket ≡ d.next
    unfolding view
    taken_ticket t = ticket_is m (order_of a) q.premise.holds t

    pub from_one : 1 ≤ d.next
    unfolding view
    from_one = (premise_sound d q.premise).next_from

    one_more : (v : ℕ) (ys : List ℕ) → length ys ≡ most_lines → accepts (call m c).reply.refusal ≡ true
        → take ((store (call m c).model).next - 1) (set ys ((call m c).reply.ticket - 1) v) ≡ take (given d) ys ++ (v ∷ [])
    one_more v ys h t =
        let k : (store (call m c).model).next - 1 ≡ suc (d.next - 1) = omega (arith, taken_next t, from_one) in
        let n : (call m c).reply.ticket - 1 ≡ d.next - 1 = omega (arith, taken_ticket t) in
        (λ i. take (k i) (set ys (n i) v)) ∙ take-suc-set ys (d.next - 1) v (omega (arith, h, within, q.few, from_one))

    arrival_season : season_of l (place_by l p (arrives a)) ≡ season_by (season_of l p) (arrives a)
    arrival_season =
        case (accepts (call m c).reply.refusal)
        (λ t. rw t (λ i. record {
          model = model_after c i;
          lines = line_rest x xs e i;
          above = min (suc p.standing.above) most_lines;
          highest = highest_with p.standing.highest (arrival_next (season_of l p));
          arrivals = one_more a.minute p.arrivals q.arrivals_whole t i;
          actuals = one_more a.actual p.actuals q.actuals_whole t i;
        }))
        (λ t. rw t (λ i. record {
          model = model_after c i;
          lines = line_rest x xs e i;
          above = min (suc p.standing.above) most_lines;
          highest = highest_with p.standing.highest (arrival_next (season_of l p));
          arrivals = take (same_given c (rw t) i - 1) p.arrivals;
          actuals = take (same_given c (rw t) i - 1) p.actuals;
        }))

  line_season : (x : Line) (xs : List Line) → lines_of (drop p.standing.at l) ≡ x ∷ xs
      → season_of l (line_done l (arrival_next (season_of l p)) p) ≡ next_line (season_of l p)
  line_season x xs e = λ i. record {
    model = m;
    lines = line_rest x xs e i;
    above = min (suc p.standing.above) most_lines;
    highest = highest_with p.standing.highest (arrival_next (season_of l p));
    arrivals = take (given d) p.arrivals;
    actuals = take (given d) p.actuals;
  }

  by_season : (t : Turn) → Because (season_of l p) t → is_over t ≡ false → season_of l (place_by l p t) ≡ season_by (season_of l p) t
  by_season (ends j) b n = call_season (complete j.ticket) (depart_came m j.ticket)
  by_season (refuses r) (refused {l = x} {ls = xs} e) n = line_season x xs e
  by_season (arrives a) (arriving {l = x} {ls = xs} e f t k) n = arrival_season a x xs e f
  by_season steps b n = call_season tick (tick_came m)
  by_season over b n = true_false true refl n

  abbrev s : Season
  s = season_of l p

  -- the place after a turn stands for the season after it
  pub place_season : is_over (turn_of s) ≡ false → season_of l (place_by l p (turn_of s)) ≡ season_by s (turn_of s)
  place_season n = by_season (turn_of s) (because s q.premise.holds) n

  -- ## What holds goes on holding

  call_play : (c : Call) → (said call m c).came ≡ [] → ((j : Job) → In j (view (store (call m c).model)).jobs → j.least ≡ 0) → InPlay l (called p c)
  call_play c e f = record {
    premise = call_premise d c q.premise;
    no_least = f;
    inside = q.inside;
    few = omega (arith, same_given c e, q.few);
    most = omega (arith, same_given c e, q.most);
    arrivals_whole = q.arrivals_whole;
    actuals_whole = q.actuals_whole;
  }

  line_play : (x : Line) (xs : List Line) → lines_of (drop p.standing.at l) ≡ x ∷ xs → (o : Option Arrival) → InPlay l (line_done l o p)
  line_play x xs e o = record {
    premise = q.premise;
    no_least = q.no_least;
    inside = (past_line l p.standing.at (line_left x xs e)).within;
    few = omega (arith, q.few, q.most);
    most = q.most;
    arrivals_whole = q.arrivals_whole;
    actuals_whole = q.actuals_whole;
  }

  arrival_play : (a : Arrival) (x : Line) (xs : List Line) → lines_of (drop p.standing.at l) ≡ x ∷ xs → arrival_of p.standing.above x ≡ some a
      → ((j : Job) → In j (view (store (call m (submit (order_of a))).model)).jobs → j.least ≡ 0) → InPlay l (place_by l p (arrives a))
  arrival_play a x xs e f g =
      let c = submit (order_of a) in
      case (accepts (call m c).reply.refusal)
      (λ t. rw t (record {
        premise = call_premise d c q.premise;
        no_least = g;
        inside = (past_line l p.standing.at (line_left x xs e)).within;
        few = omega (arith, taken_next a x xs e f t, q.few, within a x xs e f);
        most = omega (arith, taken_next a x xs e f t, q.few, within a x xs e f);
        arrivals_whole = length-set p.arrivals ((call m c).reply.ticket - 1) a.minute ∙ q.arrivals_whole;
        actuals_whole = length-set p.actuals ((call m c).reply.ticket - 1) a.actual ∙ q.actuals_whole;
      }))
      (λ t. rw t (record {
        premise = call_premise d c q.premise;
        no_least = g;
        inside = (past_line l p.standing.at (line_left x xs e)).within;
        few = omega (arith, same_given c (rw t), q.few, q.most);
        most = omega (arith, same_given c (rw t), q.most);
        arrivals_whole = q.arrivals_whole;
        actuals_whole = q.actuals_whole;
      }))

  noted_least : (a : Arrival) (o : Reply) (z : Season) → ((j : Job) → In j (noted a o z).model.jobs → j.least ≡ 0) → (j : Job) → In j z.model.jobs → j.least ≡ 0
  noted_least a o z f j i = case (accepts o.refusal) (λ t. f j (rw t i)) (λ t. f j (rw t i))

  -- what is read back has no least either
  back : (c : Call) → ((j : Job) → In j (call m c).model.jobs → j.least ≡ 0) → (j : Job) → In j (view (store (call m c).model)).jobs → j.least ≡ 0
  back c f = subst (λ (x : Model). (j : Job) → In j x.jobs → j.least ≡ 0) (sym (model_after c)) f

  -- where it is over too
  pub closed_play : InPlay l (closed p)
  closed_play = record {
    premise = q.premise;
    no_least = q.no_least;
    inside = q.inside;
    few = q.few;
    most = q.most;
    arrivals_whole = q.arrivals_whole;
    actuals_whole = q.actuals_whole;
  }

  by_play : (t : Turn) → Because s t → Ready (season_by s t) → InPlay l (place_by l p t)
  by_play (ends j) b r = call_play (complete j.ticket) (depart_came m j.ticket) (back (complete j.ticket) r.no_least)
  by_play (refuses y) (refused {l = x} {ls = xs} e) r = line_play x xs e (arrival_next s)
  by_play (arrives a) (arriving {l = x} {ls = xs} e f t k) r = arrival_play a x xs e f (back (submit (order_of a)) (noted_least a (call m (submit (order_of a))).reply (next_line (season.after s (call m (submit (order_of a))))) r.no_least))
  by_play steps b r = call_play tick (tick_came m) (back tick r.no_least)
  by_play over b r = closed_play

  pub place_play : InPlay l (place_by l p (turn_of s))
  place_play = by_play (turn_of s) (because s q.premise.holds) (next_ready s (ready_of l p q))
