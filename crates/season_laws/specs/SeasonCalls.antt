-- Every season plays a list of calls: the guarantees hold of what it prints.
-- Assumes nothing.
use Rattle.std.specs.Prelude.{◌≡◌, refl, cond, List, [], ◌∷◌, ◌++◌, ℕ, zero, suc, take}
use Rattle.std.proofs.Common.{sym, ap, subst, ◌∙◌}
use Rattle.lists.specs.Tests.{case}
use Rattle.scheduler.specs.declared.Opening.{Opening}
use Rattle.scheduler.specs.declared.Refusal.{Refusal}
use Rattle.scheduler.specs.Answers.{accepts, code}
use Rattle.scheduler.specs.Opening.{opening}
use Rattle.history.specs.Calls.{Call, Event, submit, complete, tick, events}
use Rattle.history.specs.Guarantee.{Guarantee}
use Rattle.guarantees.specs.Rules.{call}
use Rattle.guarantees.specs.Statement.{book_of}
use Rattle.guarantees.specs.Proof.{opened_keeps}
use Rattle.desk_lines.specs.Lines.{Line}
use Rattle.script_rules.specs.Writing.{no_row}
use Rattle.script_rules.specs.PlayedCalls.{first_events}
use Rattle.season_rules.specs.declared.Arrival.{Arrival}
use Rattle.season_rules.specs.Season.{Season, Turn, ends, refuses, arrives, steps, over, text_of, turn_of, order_of, text_by, season_by, is_over, played}
use Rattle.season_rules.specs.Season.{turns_left, remaining, beginning}

-- what the turns are answered, in order: that a line is refused without a call, or an answer to a call with the season before it
pub data Item : Type 0 where
  refused : Refusal → Item
  answered : Season → Event → Item

abbrev pub item_text : Item → List ℕ
item_text (refused r) = no_row (code r)
item_text (answered s e) = text_of s e.reply

abbrev pub texts : List Item → List ℕ
texts [] = []
texts (i ∷ is) = item_text i ++ texts is

abbrev pub with_event : Item → List Event → List Event
with_event (refused r) es = es
with_event (answered s e) es = e ∷ es

-- the calls and answers among them
abbrev pub told : List Item → List Event
told [] = []
told (i ∷ is) = with_event i (told is)

-- the season calls the scheduler
abbrev pub asks : Season → Call → Item
asks s c = answered s (record { call = c; reply = (call s.model c).reply })

-- a turn's item, and those after it; its call, and those after it
abbrev pub with_item : Season → Turn → List Item → List Item
with_item s (ends j) is = asks s (complete j.ticket) ∷ is
with_item s (refuses r) is = refused r ∷ is
with_item s (arrives a) is = asks s (submit (order_of a)) ∷ is
with_item s steps is = asks s tick ∷ is
with_item s over is = []

abbrev pub with_call : Turn → List Call → List Call
with_call (ends j) cs = complete j.ticket ∷ cs
with_call (refuses r) cs = cs
with_call (arrives a) cs = submit (order_of a) ∷ cs
with_call steps cs = tick ∷ cs
with_call over cs = []

-- of the next n turns
abbrev pub items : ℕ → Season → List Item
items zero s = []
items (suc n) s = let t = turn_of s in with_item s t (items n (season_by s t))

abbrev pub calls : ℕ → Season → List Call
calls zero s = []
calls (suc n) s = let t = turn_of s in with_call t (calls n (season_by s t))

-- what the turns print is the text of their items,
pub prints : (n : ℕ) (s : Season) → played n s ≡ texts (items n s)
unfolding played
prints zero s = refl
prints (suc n) s = by (turn_of s) (prints n (season_by s (turn_of s)))
  where
    by : (t : Turn) → played n (season_by s t) ≡ texts (items n (season_by s t))
        → text_by s t ++ cond {A = Season → List ℕ} (is_over t) (λ z. []) (λ z. played n z) (season_by s t) ≡ texts (with_item s t (items n (season_by s t)))
    by (ends j) e = ap (λ x. text_by s (ends j) ++ x) e
    by (refuses r) e = ap (λ x. text_by s (refuses r) ++ x) e
    by (arrives a) e = ap (λ x. text_by s (arrives a) ++ x) e
    by steps e = ap (λ x. text_by s steps ++ x) e
    by over e = refl

-- and the calls among these, with their answers, are a list of calls of the scheduler
pub tells : (n : ℕ) (s : Season) → told (items n s) ≡ events call s.model (calls n s)
tells zero s = refl
tells (suc n) s = by (turn_of s) (tells n (season_by s (turn_of s)))
  where
    asked : (c : Call) (z : Season) → z.model ≡ (call s.model c).model → told (items n z) ≡ events call z.model (calls n z)
        → told (asks s c ∷ items n z) ≡ events call s.model (c ∷ calls n z)
    asked c z q e = ap (λ x. record { call = c; reply = (call s.model c).reply } ∷ x) (e ∙ ap (λ m. events call m (calls n z)) q)

    arrived : (a : Arrival) → (season_by s (arrives a)).model ≡ (call s.model (submit (order_of a))).model
    arrived a = case (accepts (call s.model (submit (order_of a))).reply.refusal) (λ q. rw q) (λ q. rw q)

    by : (t : Turn) → told (items n (season_by s t)) ≡ events call (season_by s t).model (calls n (season_by s t))
        → told (with_item s t (items n (season_by s t))) ≡ events call s.model (with_call t (calls n (season_by s t)))
    by (ends j) e = asked (complete j.ticket) (season_by s (ends j)) refl e
    by (refuses r) e = e
    by (arrives a) e = asked (submit (order_of a)) (season_by s (arrives a)) (arrived a) e
    by steps e = asked tick (season_by s steps) refl e
    by over e = refl

-- the items of the whole season
abbrev pub all_items : Season → List Item
all_items s = items (turns_left s) s

-- A season prints the text of its items; and by the calls and answers among them, after each single one, promises are kept, bounds and
-- forecasts are kept, and running jobs never hold more nodes than the machine has.
pub record Keeps (o : Opening) (ls : List Line) : Type 0 where
  pub text : remaining (beginning (opening o) ls) ≡ texts (all_items (beginning (opening o) ls))
  pub kept : (i : ℕ)
      → Guarantee o.settings.kind (opening o).settings (book_of (opening o) (take i (told (all_items (beginning (opening o) ls)))))

pub season_keeps : (o : Opening) (ls : List Line) → Keeps o ls
season_keeps o ls = record {
  text = prints (turns_left (beginning (opening o) ls)) (beginning (opening o) ls);
  kept = λ i.
      let m = opening o in
      let s = beginning m ls in
      let cs = calls (turns_left s) s in
      let same : events call m (take i cs) ≡ take i (told (all_items s)) = sym (first_events m cs i) ∙ ap (take i) (sym (tells (turns_left s) s)) in
      subst (λ (es : List Event). Guarantee o.settings.kind m.settings (book_of m es)) same (opened_keeps o (take i cs));
}
