-- Every script plays a list of calls: the guarantees hold of what it prints.
-- Assumes nothing.
use Rattle.std.specs.Prelude.{◌≡◌, refl, List, [], ◌∷◌, ◌++◌, ℕ, zero, suc, take}
use Rattle.std.proofs.Common.{sym, ap, subst, ◌∙◌, append-nil, append_assoc}
use Rattle.std.proofs.Math.Option.{Option, none, some}
use Rattle.scheduler.specs.declared.Kind.{Kind}
use Rattle.scheduler.specs.declared.Opening.{Opening}
use Rattle.scheduler.specs.Model.{Model}
use Rattle.scheduler.specs.Opening.{opening}
use Rattle.history.specs.Calls.{Call, Command, Event, after, events, calls_of, all_calls}
use Rattle.history.specs.Guarantee.{Guarantee}
use Rattle.guarantees.specs.Rules.{call}
use Rattle.guarantees.specs.Statement.{book_of, events_append}
use Rattle.guarantees.specs.Proof.{opened_keeps}
use Rattle.desk_lines.specs.Lines.{Line}
use Rattle.script_rules.specs.Reading.{command_of}
use Rattle.script_rules.specs.Writing.{text_of}
use Rattle.script_rules.specs.Printout.{malformed, printed_all, called_by, printed_by, played}

-- what the lines are answered, in order: that one lacks the form, or an answer to a call with the clock after it
pub data Item : Type 0 where
  not_read : Item
  answered : Kind → (minute : ℕ) → Event → Item

abbrev pub item_text : Item → List ℕ
item_text not_read = malformed
item_text (answered k now e) = text_of k now e.reply

abbrev pub texts : List Item → List ℕ
texts [] = []
texts (i ∷ is) = item_text i ++ texts is

abbrev pub with_event : Item → List Event → List Event
with_event not_read es = es
with_event (answered k now e) es = e ∷ es

-- the calls and answers among them
abbrev pub told : List Item → List Event
told [] = []
told (i ∷ is) = with_event i (told is)

abbrev pub answers : Model → List Call → List Item
answers m [] = []
answers m (c ∷ cs) = let r = call m c in answered m.settings.kind r.model.clock (record { call = c; reply = r.reply }) ∷ answers r.model cs

abbrev pub items_by : Model → Option Command → List Item
items_by m none = not_read ∷ []
items_by m (some q) = answers m (calls_of m q)

abbrev pub items : Model → List Line → List Item
items m [] = []
items m (l ∷ ls) = items_by m (command_of l) ++ items (after call m (called_by m (command_of l))) ls

-- the commands of the lines that have the form
abbrev pub and_command : Option Command → List Command → List Command
and_command none qs = qs
and_command (some q) qs = q ∷ qs

abbrev pub commands : List Line → List Command
commands [] = []
commands (l ∷ ls) = and_command (command_of l) (commands ls)

texts_append : (is js : List Item) → texts (is ++ js) ≡ texts is ++ texts js
texts_append [] js = refl
texts_append (i ∷ is) js = ap (λ t. item_text i ++ t) (texts_append is js) ∙ sym (append_assoc (item_text i) (texts is) (texts js))

told_append : (is js : List Item) → told (is ++ js) ≡ told is ++ told js
told_append [] js = refl
told_append (not_read ∷ is) js = told_append is js
told_append (answered k now e ∷ is) js = ap (λ t. e ∷ t) (told_append is js)

answers_texts : (m : Model) (cs : List Call) → printed_all m cs ≡ texts (answers m cs)
unfolding printed_all
answers_texts m [] = refl
answers_texts m (c ∷ cs) = ap (λ t. text_of m.settings.kind (call m c).model.clock (call m c).reply ++ t) (answers_texts (call m c).model cs)

answers_told : (m : Model) (cs : List Call) → told (answers m cs) ≡ events call m cs
answers_told m [] = refl
answers_told m (c ∷ cs) = ap (λ t. record { call = c; reply = (call m c).reply } ∷ t) (answers_told (call m c).model cs)

by_texts : (m : Model) (q : Option Command) → printed_by m q ≡ texts (items_by m q)
by_texts m none = sym (append-nil malformed)
by_texts m (some q) = answers_texts m (calls_of m q)

-- the printout of the lines is the text of their items,
pub prints : (m : Model) (ls : List Line) → played m ls ≡ texts (items m ls)
unfolding played
prints m [] = refl
prints m (l ∷ ls) =
    let q = command_of l in
    let rest = after call m (called_by m q) in
    ap (λ t. t ++ played rest ls) (by_texts m q)
    ∙ ap (λ t. texts (items_by m q) ++ t) (prints rest ls)
    ∙ sym (texts_append (items_by m q) (items rest ls))

-- and the calls among these, with their answers, are a list of calls of the scheduler
pub tells : (m : Model) (ls : List Line) → told (items m ls) ≡ events call m (all_calls call m (commands ls))
tells m [] = refl
tells m (l ∷ ls) = line (command_of l) (tells (after call m (called_by m (command_of l))) ls)
  where
    line : (q : Option Command) → told (items (after call m (called_by m q)) ls) ≡ events call (after call m (called_by m q))
        (all_calls call (after call m (called_by m q)) (commands ls))
        → told (items_by m q ++ items (after call m (called_by m q)) ls) ≡ events call m (all_calls call m (and_command q (commands ls)))
    line none e = e
    line (some q) e =
        let cs = calls_of m q in
        let rest = after call m cs in
        told_append (answers m cs) (items rest ls)
        ∙ ap (λ t. t ++ told (items rest ls)) (answers_told m cs)
        ∙ ap (λ t. events call m cs ++ t) e
        ∙ sym (events_append m cs (all_calls call rest (commands ls)))

pub first_events : (m : Model) (cs : List Call) (i : ℕ) → take i (events call m cs) ≡ events call m (take i cs)
first_events m cs zero = refl
first_events m [] (suc i) = refl
first_events m (c ∷ cs) (suc i) = ap (λ t. record { call = c; reply = (call m c).reply } ∷ t) (first_events (call m c).model cs i)

-- A script prints the text of its items; and by the calls and answers among them, after each single one, promises are kept, bounds and
-- forecasts are kept, and running jobs never hold more nodes than the machine has.
pub record Keeps (o : Opening) (ls : List Line) : Type 0 where
  pub text : played (opening o) ls ≡ texts (items (opening o) ls)
  pub kept : (i : ℕ)
      → Guarantee o.settings.kind (opening o).settings (book_of (opening o) (take i (told (items (opening o) ls))))

pub script_keeps : (o : Opening) (ls : List Line) → Keeps o ls
script_keeps o ls = record {
  text = prints (opening o) ls;
  kept = λ i.
      let m = opening o in
      let cs = all_calls call m (commands ls) in
      let same : events call m (take i cs) ≡ take i (told (items m ls)) = sym (first_events m cs i) ∙ ap (take i) (sym (tells m ls)) in
      subst (λ (es : List Event). Guarantee o.settings.kind m.settings (book_of m es)) same (opened_keeps o (take i (all_calls call (opening o) (commands ls))));
}
