-- What a list of calls and their answers says, and nothing else: document 01, "The words go by the calls and their answers".
-- Assumes nothing.
use Rattle.std.specs.Prelude.{Bool, true, false, not, ◌&&◌, ◌||◌, cond, ℕ, suc, ◌+◌, ◌*◌, min, eqb, ltb, length}
use mathlib.Core.List.{List, [], ◌∷◌, ◌++◌, map, foldr}
use Rattle.std.proofs.Math.Option.{Option, none, some}
use Rattle.lists.specs.Lists.{keep, elem}
use Rattle.scheduler.specs.declared.Amendment.{Amendment}
use Rattle.scheduler.specs.declared.Tenant.{Tenant}
use Rattle.scheduler.specs.Answers.{Forecast}
use Rattle.history.specs.Calls.{Event}
use Rattle.history.specs.News.{Newcomer, amended_ticket, amended_nodes, amended_least, News, news, clock_after}

-- "It has started once a call, its intake or a later one, gives its ticket among those started; the start is the clock after that
-- call. It runs from then until a call gives its ticket among those ended. It waits from intake until it has started (or a later request's call takes it out)."
pub data Fate : Type 0 where
  waiting : Fate
  running : (start : ℕ) → Fate
  -- its run has ended in that minute, and its nodes are not free yet (document 02, No. 3)
  cleaning : (start end : ℕ) → Fate
  ended : (start : ℕ) → Fate
  -- document 02, No. 1: it was withdrawn in this minute
  withdrawn : (minute : ℕ) → Fate

-- A job taken in.
pub record Entry : Type 0 where
  -- "Its ticket and promise are what that intake answered, its nodes those last asked for it in a call not refused."
  pub ticket : ℕ
  pub nodes : ℕ
  pub promise : ℕ
  -- the house that its intake named, and the least last asked for it
  pub tenant : Tenant
  pub least : ℕ
  -- "Its bound is the clock at intake + r × 10,080.". A job that had started before the list began has none
  pub bound : Option ℕ
  pub fate : Fate
  -- it has been head after a call
  pub headed : Bool
  -- "Its forecast is the minute given by the call after which it is head for the first time."
  pub forecast : Option ℕ

pub record Book : Type 0 where
  pub clock : ℕ
  pub entries : List Entry
  -- tickets that calls started, withdrew or amended though no such job waited, or both started and withdrew
  pub strays : List ℕ

abbrev pub waits : Fate → Bool
waits waiting = true
waits (running s) = false
waits (cleaning s e) = false
waits (ended s) = false
waits (withdrawn w) = false

-- its nodes are taken: it runs, or they are not free yet
abbrev pub holds : Fate → Bool
holds waiting = false
holds (running s) = true
holds (cleaning s e) = true
holds (ended s) = false
holds (withdrawn w) = false

abbrev pub start : Fate → Option ℕ
start waiting = none
start (running s) = some s
start (cleaning s e) = some s
start (ended s) = some s
start (withdrawn w) = none

abbrev pub withdrawal : Fate → Option ℕ
withdrawal waiting = none
withdrawal (running s) = none
withdrawal (cleaning s e) = none
withdrawal (ended s) = none
withdrawal (withdrawn w) = some w

abbrev pub is_waiting : Entry → Bool
is_waiting x = waits x.fate

-- "r is one more than the number of stacks waiting just before its intake."
abbrev pub rank : List Entry → ℕ
rank xs = suc (length (keep is_waiting xs))

-- "A stack is taken in by an intake not refused." u is the unit of the bound
abbrev pub entry : ℕ → Book → Newcomer → Entry
entry u b o = record {
  ticket = o.ticket;
  nodes = o.nodes;
  promise = o.promise;
  tenant = o.tenant;
  least = o.least;
  bound = some (b.clock + rank b.entries * u);
  fate = waiting;
  headed = false;
  forecast = none;
}

-- "From now on nodes stay taken for clearing minutes": for k minutes from the minute of the end on; the clock is at c
abbrev pub over : (k c start end : ℕ) → Fate
over k c s e = cond (ltb c (e + k)) (cleaning s e) (ended s)

-- the fate of the job with ticket t, after an event that left the clock at c
abbrev pub fate_after : (k c : ℕ) → News → ℕ → Fate → Fate
fate_after k c e t waiting = cond (elem t e.withdrew) (withdrawn c) (cond (elem t e.started) (running c) waiting)
fate_after k c e t (running s) = cond (elem t e.ended) (over k c s c) (running s)
fate_after k c e t (cleaning s m) = over k c s m
fate_after k c e t (ended s) = ended s
fate_after k c e t (withdrawn w) = withdrawn w

-- after each of these events, the clock being c before them
abbrev pub fate_from : (k c : ℕ) → ℕ → Fate → List Event → Fate
fate_from k c t f [] = f
fate_from k c t f (e ∷ es) = let c' = clock_after (news e) c in fate_from k c' t (fate_after k c' (news e) t f) es

-- "its nodes those last asked for it in a call not refused": what the last of these amendments that names this ticket asks, or as before
abbrev pub last_asked : (Amendment → ℕ) → List Amendment → (ticket before : ℕ) → ℕ
last_asked f [] t n = n
last_asked f (a ∷ more) t n = last_asked f more t (cond (eqb a.ticket t) (f a) n)

-- of a job that waits: to amend another is a stray
abbrev pub asked_of : (Amendment → ℕ) → List Amendment → Fate → (ticket before : ℕ) → ℕ
asked_of f amended g t n = cond (waits g) (last_asked f amended t n) n

abbrev pub with_fate : List Amendment → Entry → Fate → Entry
with_fate amended x f = record {
  ticket = x.ticket;
  nodes = asked_of amended_nodes amended x.fate x.ticket x.nodes;
  promise = x.promise;
  tenant = x.tenant;
  least = asked_of amended_least amended x.fate x.ticket x.least;
  bound = x.bound;
  fate = f;
  headed = x.headed;
  forecast = x.forecast;
}

abbrev pub marked : (k c : ℕ) → News → Entry → Entry
marked k c e x = with_fate e.amended x (fate_after k c e x.ticket x.fate)

-- "The head is the waiting stack with the lowest ticket."
abbrev pub lowest : List ℕ → Option ℕ
lowest [] = none
lowest (t ∷ ts) = some (foldr min t ts)

abbrev pub entry_ticket : Entry → ℕ
entry_ticket x = x.ticket

abbrev pub queued : List Entry → List ℕ
queued xs = map entry_ticket (keep is_waiting xs)

abbrev pub head_of : List Entry → Option ℕ
head_of xs = lowest (queued xs)

-- those that an event starts, withdraws or amends, though none of these jobs waits, or that it both withdraws and starts
abbrev pub stray : List Entry → News → List ℕ
stray xs e =
    keep (λ (t : ℕ). not (elem t (queued xs))) (map amended_ticket e.amended)
    ++ keep (λ (t : ℕ). not (elem t (queued xs))) e.withdrew
    ++ keep (λ (t : ℕ). elem t e.withdrew || not (elem t (queued xs))) e.started

abbrev pub is : Option ℕ → ℕ → Bool
is none t = false
is (some h) t = eqb h t

-- the minute that an answer gives for the job with ticket t
abbrev pub given : Option Forecast → ℕ → Option ℕ
given none t = none
given (some f) t = cond (eqb f.ticket t) (some f.minute) none

-- the entry, where it is head after a call for the first time
abbrev pub hearing : Option Forecast → Entry → Entry
hearing f x = record {
  ticket = x.ticket;
  nodes = x.nodes;
  promise = x.promise;
  tenant = x.tenant;
  least = x.least;
  bound = x.bound;
  fate = x.fate;
  headed = true;
  forecast = given f x.ticket;
}

abbrev pub heard : Option ℕ → Option Forecast → Entry → Entry
heard h f x = cond (is_waiting x && is h x.ticket && not x.headed) (hearing f x) x

abbrev pub told : (k c : ℕ) → News → List Entry → List Entry
told k c e xs = map (heard (head_of (map (marked k c e) xs)) e.head) (map (marked k c e) xs)

-- u is the unit of the bound, and nodes stay taken for k minutes after the end
unfoldable pub enter : (u k : ℕ) → Book → News → Book
enter u k b e =
    let c = clock_after e b.clock in
    let xs = b.entries ++ map (entry u b) e.came in
    record { clock = c; entries = told k c e xs; strays = b.strays ++ stray xs e }

abbrev pub enter_all : (u k : ℕ) → Book → List Event → Book
enter_all u k b [] = b
enter_all u k b (e ∷ es) = enter_all u k (enter u k b (news e)) es
