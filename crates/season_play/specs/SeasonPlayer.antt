-- A season played piece by piece: each piece is the next part of its printout, and leaves less to play.
-- Assumes nothing.
use Rattle.std.specs.Prelude.{◌≡◌, true, false, eqb, ltb, length, drop}
use Rattle.std.proofs.Math.Path.{refl, sym, ap, subst}
use Rattle.std.proofs.Common.{◌∙◌, arith, length-drop, lt-ltb, le-ltb}
use mathlib.Core.List.{List, [], ◌++◌}
use Rattle.std.proofs.Math.Option.{some}
use Prim.Native.Nat.{ℕ, suc, ◌+◌, ◌-◌, ◌*◌, ◌≤◌, ◌<◌}
use Rattle.std.proofs.Math.ListN.{take}
use Rattle.lists.specs.Tests.{case, true_false}
use Rattle.lists.specs.Lists.{In, in_nil}
use Rattle.text.specs.Fields.{fields_of, field_of}
use Rattle.text.specs.Lines.{begins_of}
use Rattle.text.specs.LineLaws.{begins_inside}
use Rattle.paging.specs.Players.{Piece, piece, Player}
use Rattle.paging.specs.PageFilling.{Pages, pages_left}
use Rattle.scheduler.specs.declared.Kind.TheVariants.{Conservative}
use Rattle.scheduler.specs.declared.Opening.{Opening}
use Rattle.scheduler.specs.declared.Scheduler.{Scheduler}
use Rattle.scheduler.specs.Limits.{horizon}
use Rattle.scheduler.specs.Settings.{refused_settings}
use Rattle.scheduler.specs.Model.{Model, view, store}
use Rattle.scheduler.specs.Opening.{opening, opening_refusal, opened}
use Rattle.scheduler.specs.Answers.{accepts, verdict}
use Rattle.history.specs.Calls.{submit}
use Rattle.guarantees.specs.Rules.{call}
use Rattle.guarantees.specs.Premise.{opening_valid, opened_premise, valid_view}
use Rattle.desk_lines.specs.Lines.{Line, lines_of}
use Rattle.desk_lines.specs.LineLaws.{lines_few}
use Rattle.script_rules.specs.Beginnings.{printout_begins}
use Rattle.desk_lines.specs.DeskLine.{kind_of}
use Rattle.script_reading.specs.NumberBounds.{Any, any_none, any_some, any_field, any_kind, any_cond}
use Rattle.script_play.specs.declared.Stage.{Stage}
use Rattle.script_play.specs.declared.Stage.TheVariants.{First, Playing, Over}
use Rattle.script_play.specs.FirstPieces.{first_by_of, first_left, first_holds}
use Rattle.script_play.specs.Progress.{goes_on_of}
use Rattle.season_rules.specs.Reading.{longest_list, most_lines, opening_in}
use Rattle.season_rules.specs.Season as season
use Rattle.season_rules.specs.Season.{Season, Turn, ends, refuses, arrives, steps, over, order_of, turn_of, text_by, is_over, turns_left, remaining, printout}
use Rattle.season_laws.specs.Progress.{next_less, some_left, over_silent, remaining_next, remaining_over}
use Rattle.season_play.specs.declared.Standing.{Standing}
use Rattle.season_play.specs.Places.{Place, place, season_of, going, closed, place_by, later_piece, InPlay, ready_of, place_season, closed_play, place_play}

-- the first line
abbrev pub starts : Place → ℕ → Scheduler → Place
starts p next d = record { standing = going next 0 0 d; arrivals = p.arrivals; actuals = p.actuals }

abbrev pub first_piece : List ℕ → Place → Piece Place
first_piece l p = first_by_of (closed p) (starts p) opening_in (begins_of longest_list l) l

abbrev pub piece_by : Stage → List ℕ → Place → Piece Place
piece_by First l p = first_piece l p
piece_by Playing l p = later_piece l p
piece_by Over l p = piece [] p

-- a season that has not begun: its scheduler is not asked anything before an opening
abbrev blank : Opening
blank = record { settings = refused_settings Conservative; minute = 0; ticket = 1 }

blank_opens : accepts (opening_refusal blank) ≡ true
unfolding opening_refusal verdict
blank_opens = refl

abbrev pub beginning : Standing
beginning = record { stage = First; at = 0; above = 0; highest = 0; scheduler = (opened blank).scheduler }

-- what is left to print, and to play
abbrev pub left_by : Stage → List ℕ → Place → List ℕ
left_by First l p = printout l
left_by Playing l p = remaining (season_of l p)
left_by Over l p = []

abbrev pub weight_by : Stage → List ℕ → Place → ℕ
weight_by First l p = suc (suc (2 * length l + horizon))
weight_by Playing l p = turns_left (season_of l p)
weight_by Over l p = 0

-- a season opens at minute 0 with ticket 1
pub opens_first : (s : List ℕ) → Any (λ (o : Opening). (o.ticket ≡ 1) × (o.minute ≡ 0)) (opening_in s)
unfolding opening_in
opens_first s =
    any_cond P (eqb (length (fields_of s)) 4) _ _
    (any_kind P (kind_of (field_of s 0)) _ (λ k. any_field P s 1 _ (λ n x. any_field P s 2 _ (λ c y. any_field P s 3 _ (λ e z. any_some P _ (refl, refl))))))
    (any_none P)
  where
    P : Opening → Type 0
    P o = (o.ticket ≡ 1) × (o.minute ≡ 0)

module _ (o : Opening) (t : o.ticket ≡ 1) (a : accepts (opening_refusal o) ≡ true) where
  opened_next : (opened o).scheduler.next ≡ 1
  unfolding opened opening store
  opened_next = rw a t

  opened_jobs : (opening o).jobs ≡ []
  unfolding opening
  opened_jobs = rw a

  opened_none : (view (opened o).scheduler).jobs ≡ []
  unfolding opened
  opened_none = ap (λ (m : Model). m.jobs) (valid_view (opening o) (opening_valid o)) ∙ opened_jobs

  first_few : (ls : List Line) → turns_left (season.beginning (opening o) ls) ≤ suc (2 * length ls + horizon)
  unfolding turns_left
  first_few ls = rw opened_jobs (omega arith)

module _ (l : List ℕ) where
  abbrev pub left : Place → List ℕ
  left p = left_by p.standing.stage l p

  abbrev pub weight : Place → ℕ
  weight p = weight_by p.standing.stage l p

  -- ## The first line

  first_season : (p : Place) (next : ℕ) (o : Opening) → o.ticket ≡ 1 → accepts (opening_refusal o) ≡ true
      → season_of l (starts p next (opened o).scheduler) ≡ season.beginning (opening o) (lines_of (drop next l))
  unfolding opened
  first_season p next o t a =
      λ i. record {
        model = valid_view (opening o) (opening_valid o) i;
        lines = lines_of (drop next l);
        above = 0;
        highest = 0;
        arrivals = take (opened_next o t a i - 1) p.arrivals;
        actuals = take (opened_next o t a i - 1) p.actuals;
      }

  by_first : (p : Place) → printout l ≡ (first_piece l p).text ++ left (first_piece l p).play
  unfolding printout
  by_first p =
      printout_begins opening_in plays longest_list l
      ∙ first_left (closed p) (starts p) opening_in l plays left refl
      (λ e o f a. ap remaining (first_season p (e + 1) o (opens_first (take e l) o f).0 a)) (begins_of longest_list l)
    where
      plays : Model → List Line → List ℕ
      plays m ls = remaining (season.beginning m ls)

  -- a piece leaves less to play, from a weight w down
  pub record Onward (w : ℕ) (p : Place) : Type 0 where
    pub ready : InPlay l p
    pub less : weight p ≤ w - 1

  closed_onward : (w : ℕ) (p : Place) → InPlay l p → Onward w (closed p)
  closed_onward w p q = record { ready = closed_play l p q; less = omega arith }

  first_onward : (p : Place) → InPlay l p → Onward (weight_by First l p) (first_piece l p).play
  first_onward p q =
      first_holds (closed p) (starts p) opening_in l (Onward (weight_by First l p)) (closed_onward _ p q) begun (begins_of longest_list l) (begins_inside longest_list l)
    where
      begun : (e : ℕ) → e < length l → (o : Opening) → opening_in (take e l) ≡ some o → accepts (opening_refusal o) ≡ true
          → Onward (weight_by First l p) (starts p (e + 1) (opened o).scheduler)
      begun e h o f a =
          let t = (opens_first (take e l) o f).0 in
          let n = opened_next o t a in
          record {
            ready = record {
              premise = opened_premise o;
              no_least = λ j i. in_nil (subst (In j) (opened_none o t a) i);
              inside = omega arith;
              few = omega (arith, n);
              most = omega (arith, n);
              arrivals_whole = q.arrivals_whole;
              actuals_whole = q.actuals_whole;
            };
            less = omega (arith, ap turns_left (first_season p (e + 1) o t a), first_few o t a (lines_of (drop (e + 1) l)), lines_few (drop (e + 1) l), length-drop (e + 1) l);
          }

  -- ## The later turns

  module _ (p : Place) (q : InPlay l p) where
    abbrev s : Season
    s = season_of l p

    over_place : (t : Turn) → is_over t ≡ true → place_by l p t ≡ closed p
    over_place (ends j) e = true_false false e refl
    over_place (refuses r) e = true_false false e refl
    over_place (arrives a) e = true_false false e refl
    over_place steps e = true_false false e refl
    over_place over e = refl

    goes_place : (t : Turn) → is_over t ≡ false → (place_by l p t).standing.stage ≡ Playing
    goes_place (ends j) e = refl
    goes_place (refuses r) e = refl
    goes_place (arrives a) e =
        case (accepts (call (view p.standing.scheduler) (submit (order_of a))).reply.refusal) (λ t. rw t) (λ t. rw t)
    goes_place steps e = refl
    goes_place over e = true_false true refl e

    by_later : remaining s ≡ (later_piece l p).text ++ left (later_piece l p).play
    unfolding later_piece
    by_later =
        let t = turn_of s in
        case (is_over t)
        (λ e. remaining_over s e ∙ (λ i. sym (over_silent s t e) i ++ left (sym (over_place t e) i)))
        (λ e. remaining_next s (ready_of l p q) e
        ∙ ap (λ (x : List ℕ). text_by s t ++ x) (ap remaining (sym (place_season l p q e)) ∙ ap (λ (g : Stage). left_by g l (place_by l p t)) (sym (goes_place t e))))

    later_onward : Onward (weight_by Playing l p) (later_piece l p).play
    unfolding later_piece
    later_onward =
        let t = turn_of s in
        case (is_over t)
        (λ e. subst (Onward (turns_left s)) (sym (over_place t e)) (closed_onward _ p q))
        (λ e. record {
          ready = place_play l p q;
          less = omega (arith, ap (λ (g : Stage). weight_by g l (place_by l p t)) (goes_place t e), ap turns_left (place_season l p q e), next_less s (ready_of l p q) e);
        })

  -- ## All of it

  pub by_stage : (g : Stage) (p : Place) → p.standing.stage ≡ g → InPlay l p → left_by g l p ≡ (piece_by g l p).text ++ left (piece_by g l p).play
  by_stage First p e q = by_first p
  by_stage Playing p e q = by_later p q
  by_stage Over p e q = sym (ap (λ (g : Stage). left_by g l p) e)

  pub stage_onward : (g : Stage) (p : Place) → p.standing.stage ≡ g → InPlay l p → Onward (weight_by g l p) (piece_by g l p).play
  stage_onward First p e q = first_onward p q
  stage_onward Playing p e q = later_onward p q
  stage_onward Over p e q = record { ready = q; less = subst (λ (g : Stage). weight_by g l p ≤ 0) (sym e) (omega arith) }

  pub over_left : (g : Stage) (p : Place) → weight_by g l p ≡ 0 → left_by g l p ≡ []
  over_left First p e = absurd (omega arith)
  over_left Playing p e = absurd (omega (arith, e, some_left (season_of l p)))
  over_left Over p e = refl

  -- it goes on until it is over
  pub goes_on : (g : Stage) (p : Place) → goes_on_of g ≡ ltb 0 (weight_by g l p)
  goes_on First p = sym (lt-ltb 0 (weight_by First l p) (omega arith))
  goes_on Playing p = sym (lt-ltb 0 (weight_by Playing l p) (some_left (season_of l p)))
  goes_on Over p = sym (le-ltb 0 0 (omega arith))

  abbrev pub season_player : Player Place
  season_player = record {
    next = λ p. piece_by p.standing.stage l p;
    left = left;
    weight = weight;
    Ready = InPlay l;
    next_left = λ p q. by_stage p.standing.stage p refl q;
    next_ready = λ p q. (stage_onward p.standing.stage p refl q).ready;
    next_less = λ p q. (stage_onward p.standing.stage p refl q).less;
    over_left = λ p e. over_left p.standing.stage p e;
  }

  -- ## From the beginning

  pub begin_ready : (xs ys : List ℕ) → length xs ≡ most_lines → length ys ≡ most_lines → InPlay l (place beginning xs ys)
  begin_ready xs ys h k = record {
    premise = opened_premise _;
    no_least = λ j i. in_nil (subst (In j) (opened_none blank refl blank_opens) i);
    inside = omega arith;
    few = omega (arith, opened_next blank refl blank_opens);
    most = omega (arith, opened_next blank refl blank_opens);
    arrivals_whole = h;
    actuals_whole = k;
  }

  -- the pages of a season, from its beginning until it is over, are its printout
  pub season_whole : {xs ys : List ℕ} {out : List ℕ} → Pages season_player (place beginning xs ys) out → out ≡ printout l
  season_whole g = pages_left g
