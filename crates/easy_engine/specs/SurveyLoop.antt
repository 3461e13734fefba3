-- The survey of the records: one slot more, its end, and the lists that it leaves.
-- Assumes nothing.
use Rattle.std.specs.Prelude.{ℕ, zero, suc, ◌+◌, ◌-◌, ◌≤◌, ◌<◌, ◌≡◌, true, false, ◌⊎◌, set, take, drop, replicate}
use Rattle.std.proofs.Common.{arith, add-one, sym, subst, ◌∙◌, inl, inr, length-append, drop_of_length-le, take_all, take-suc, drop-cons, length-take-le}
use Rattle.std.proofs.Math.Path.{refl, ap}
use mathlib.Core.List.{List, [], ◌∷◌, ◌++◌, map, map-append, append_assoc, append-nil}
use Rattle.std.proofs.Math.ListN.{length, get_or, get_or-append}
use Rattle.std.proofs.lemmas.List.{length-map, set_at}
use Rattle.std.proofs.Math.Seq.{get_or_at}
use Rattle.lists.specs.Tests.{case}
use Rattle.lists.specs.Lists.{In, sum, in_append, in_cons, in_nil, keep_in, keep_all, sum_append, sum_picked, length_keep_le}
use Rattle.lists.specs.Loops.{keep_take_yes, keep_take_no}
use Rattle.lists.specs.Pads.{pad, keep_pad, sum_pad, pad_push, pad_set}
use Rattle.scheduler.specs.declared.Settings.{Settings}
use Rattle.scheduler.specs.declared.Job.{Job}
use Rattle.scheduler.specs.Settings.{run_time, hold_time, until}
use Rattle.scheduler.specs.Times.{hold_is, until_is, until_cleaning}
use Rattle.scheduler.specs.declared.Scheduler.{Scheduler}
use Rattle.scheduler.specs.Limits.{slots, horizon}
use Rattle.scheduler.specs.Jobs.{unused, is_waiting, is_cleaning, is_holding, held}
use Rattle.scheduler.specs.Table.{ticket_of, nodes_held}
use Rattle.scheduler.specs.Model.{Model, store, view}
use Rattle.scheduler.specs.TableLaws.{nodes_held_stored}
use Rattle.jobs.specs.Order.{asc_keep}
use Rattle.jobs.specs.Soundness.{Sound}
use Rattle.jobs.specs.Premise.{Holds}
use Rattle.jobs.specs.Slots.{sound_low, slots_are}
use Rattle.easy_rules.specs.Easy.{queue, free}
use Rattle.easy_laws.specs.Settling.{idle, sound_releasing}
use Rattle.easy_laws.specs.Validity.{Ready}
use Rattle.job_columns.specs.Columns.{Column, Blank, nodes_of, estimate_of, column_push}
use Rattle.easy_engine.specs.Survey.{from_of, term_of, asks, running, WaitingColumns, Surveyed}
use Rattle.easy_engine.specs.Survey.{SlotColumn, Passed, StartsInTime}

-- a list of zeros
pub blank : Blank (replicate slots 0)
unfolding pad
blank = refl

-- ## Sums over the first slots

pub sum_first : (f : Job → ℕ) (xs : List Job) (i : ℕ) → i < length xs → sum f (take (i + 1) xs) ≡ sum f (take i xs) + f (get_or xs i unused)
sum_first f xs i l = rw (add-one, take-suc xs i unused l) (omega (arith, sum_append f (take i xs) (get_or xs i unused ∷ [])))

sum_within : (f : Job → ℕ) (xs : List Job) (i : ℕ) → sum f (take i xs) ≤ sum f xs
sum_within f xs zero = omega arith
sum_within f [] (suc i) = omega arith
sum_within f (x ∷ xs) (suc i) = omega (arith, sum_within f xs i)

-- who holds nodes after the first slots fits what these leave
pub slot_fits : (d : Scheduler) → Holds Sound d → (i spare : ℕ) → i < length d.jobs → is_holding (get_or d.jobs i unused) ≡ true
    → spare + nodes_held (take i d.jobs) ≡ d.settings.nodes → (get_or d.jobs i unused).nodes ≤ spare
unfolding view
slot_fits d h i spare l e s =
    let xs = d.jobs in
    let z : held (get_or xs i unused) ≡ (get_or xs i unused).nodes = rw e in
    let a : nodes_held xs ≡ nodes_held (view d).jobs = ap nodes_held (slots_are d h) ∙ nodes_held_stored (view d) in
    omega (arith, sum_first held xs i l, sum_within held xs (i + 1), h.holds.capacity)

-- ## One slot more

module _ {d : Scheduler} {r w spare : ℕ} {heldₗ starts terms asked estimates tickets places : List ℕ} (i : ℕ)
    (v : Passed d (take i d.jobs) r w spare heldₗ starts terms asked estimates tickets places) (l : i < 64) (len : length d.jobs ≡ 64) where
  abbrev xs : List Job
  xs = d.jobs

  abbrev x : Job
  x = get_or xs i unused

  inside : i < length xs
  inside = omega arith

  pub few_so_far : (r < slots) × (w < slots)
  few_so_far =
      let t = length-take-le i xs (omega arith) in
      omega (arith, v.running_is, v.waiting_is, length_keep_le is_holding (take i xs), length_keep_le is_waiting (take i xs))

  -- it waits
  module _ (e : is_waiting x ≡ true) where
    pub waits_next : Passed d (take (i + 1) xs) r (w + 1) spare heldₗ starts terms (set asked w x.nodes) (set estimates w x.estimate)
        (set tickets w x.ticket) (set places w i)
    waits_next =
        let q : queue (take (i + 1) xs) ≡ queue (take i xs) ++ (x ∷ []) = keep_take_yes unused is_waiting xs i inside e in
        let k : running (take (i + 1) xs) ≡ running (take i xs) = keep_take_no unused is_holding xs i inside (idle x e) in
        let z : held x ≡ 0 = rw (idle x e) in
        let w' = few_so_far.1 in
        record {
          running_is = ap length k ∙ v.running_is;
          held_is = subst (λ (js : List Job). Column nodes_of js heldₗ) (sym k) v.held_is;
          starts_are = subst (λ (js : List Job). Column from_of js starts) (sym k) v.starts_are;
          terms_are = subst (λ (js : List Job). Column term_of js terms) (sym k) v.terms_are;
          spare_is = omega (arith, v.spare_is, sum_first held xs i inside);
          waiting_is = ap length q ∙ length-append (queue (take i xs)) (x ∷ []) ∙ ap (λ (n : ℕ). n + 1) v.waiting_is;
          asked_is = subst (λ (js : List Job). Column nodes_of js (set asked w x.nodes)) (sym q)
              (column_push nodes_of (queue (take i xs)) asked v.asked_is x w x.nodes v.waiting_is w' refl);
          estimates_are = subst (λ (js : List Job). Column estimate_of js (set estimates w x.estimate)) (sym q)
              (column_push estimate_of (queue (take i xs)) estimates v.estimates_are x w x.estimate v.waiting_is w' refl);
          tickets_are = subst (λ (js : List Job). Column ticket_of js (set tickets w x.ticket)) (sym q)
              (column_push ticket_of (queue (take i xs)) tickets v.tickets_are x w x.ticket v.waiting_is w' refl);
          slots_are = subst (λ (js : List Job). SlotColumn xs js (set places w i)) (sym q) (more v.slots_are);
        }
      where
        below : {ks : List ℕ} (k : ℕ) → ((n : ℕ) → In n ks → n < slots) → In k ks ⊎ In k (i ∷ []) → k < slots
        below k f (inl u) = f k u
        below k f (inr u) = last (in_cons u)
          where
            last : (k ≡ i) ⊎ In k [] → k < slots
            last (inl q) = omega arith
            last (inr n) = in_nil n

        more : SlotColumn xs (queue (take i xs)) places → SlotColumn xs (queue (take i xs) ++ (x ∷ [])) (set places w i)
        more s =
            let n : length s.at ≡ w = sym (length-map s.at (λ (k : ℕ). get_or xs k unused)) ∙ ap length s.jobs_at ∙ v.waiting_is in
            record {
              at = s.at ++ (i ∷ []);
              places_is = ap (λ (ps : List ℕ). set ps w i) s.places_is ∙ pad_push slots 0 s.at i w n few_so_far.1;
              low = λ k u. below k s.low (in_append s.at u);
              jobs_at = map-append (λ (k : ℕ). get_or xs k unused) s.at (i ∷ []) ∙ ap (λ (js : List Job). js ++ (x ∷ [])) s.jobs_at;
            }

  -- it holds nodes
  module _ (h : Holds Sound d) (e : is_holding x ≡ true) (f : is_waiting x ≡ false) where
    pub room_for : x.nodes ≤ spare
    room_for = slot_fits d h i spare inside e v.spare_is

    holds_next : (from term : ℕ) → from ≡ from_of x → term ≡ term_of x
        → Passed d (take (i + 1) xs) (r + 1) w (spare - x.nodes) (set heldₗ r x.nodes) (set starts r from) (set terms r term) asked estimates tickets places
    holds_next from term a b =
        let k : running (take (i + 1) xs) ≡ running (take i xs) ++ (x ∷ []) = keep_take_yes unused is_holding xs i inside e in
        let q : queue (take (i + 1) xs) ≡ queue (take i xs) = keep_take_no unused is_waiting xs i inside f in
        let z : held x ≡ x.nodes = rw e in
        let r' = few_so_far.0 in
        record {
          running_is = ap length k ∙ length-append (running (take i xs)) (x ∷ []) ∙ ap (λ (n : ℕ). n + 1) v.running_is;
          held_is = subst (λ (js : List Job). Column nodes_of js (set heldₗ r x.nodes)) (sym k)
              (column_push nodes_of (running (take i xs)) heldₗ v.held_is x r x.nodes v.running_is r' refl);
          starts_are = subst (λ (js : List Job). Column from_of js (set starts r from)) (sym k)
              (column_push from_of (running (take i xs)) starts v.starts_are x r from v.running_is r' a);
          terms_are = subst (λ (js : List Job). Column term_of js (set terms r term)) (sym k)
              (column_push term_of (running (take i xs)) terms v.terms_are x r term v.running_is r' b);
          spare_is = omega (arith, v.spare_is, sum_first held xs i inside, room_for);
          waiting_is = ap length q ∙ v.waiting_is;
          asked_is = subst (λ (js : List Job). Column nodes_of js asked) (sym q) v.asked_is;
          estimates_are = subst (λ (js : List Job). Column estimate_of js estimates) (sym q) v.estimates_are;
          tickets_are = subst (λ (js : List Job). Column ticket_of js tickets) (sym q) v.tickets_are;
          slots_are = subst (λ (js : List Job). SlotColumn xs js places) (sym q) v.slots_are;
        }

    -- it runs
    pub runs_next : is_cleaning x ≡ false
        → Passed d (take (i + 1) xs) (r + 1) w (spare - x.nodes) (set heldₗ r x.nodes) (set starts r x.start) (set terms r x.estimate) asked estimates
        tickets places
    runs_next n = holds_next x.start x.estimate (rw n) (rw n)

    -- it is in cleanup
    pub cleans_next : is_cleaning x ≡ true
        → Passed d (take (i + 1) xs) (r + 1) w (spare - x.nodes) (set heldₗ r x.nodes) (set starts r x.end) (set terms r 0) asked estimates
        tickets places
    cleans_next c = holds_next x.end 0 (rw c) (rw c)

-- ## The end

take_pad : (L : List Job) (n i : ℕ) → length L ≤ i → i ≤ length L + n → take i (L ++ replicate n unused) ≡ L ++ replicate (i - length L) unused
take_pad [] n zero a b = refl
take_pad [] zero (suc i) a b = absurd (omega arith)
take_pad [] (suc n) (suc i) a b =
    let e : suc i - 0 ≡ suc (i - 0) = omega arith in
    rw e (ap (λ (l : List Job). unused ∷ l) (take_pad [] n i (omega arith) (omega arith)))
take_pad (x ∷ L) n zero a b = absurd (omega arith)
take_pad (x ∷ L) n (suc i) a b =
    let e : suc i - suc (length L) ≡ i - length L = omega arith in
    rw e (ap (λ (l : List Job). x ∷ l) (take_pad L n i (omega arith) (omega arith)))

module _ (d : Scheduler) (h : Holds Sound d) (i : ℕ) (b : i ≤ 64) where
  abbrev L : List Job
  L = (view d).jobs

  -- past the live jobs no slot counts
  front : length L ≤ i → take i d.jobs ≡ pad i unused L
  unfolding store pad
  front a = ap (take i) (slots_are d h) ∙ take_pad L (slots - length L) i a (omega (arith, h.holds.few))

  module _ (a : length L ≤ i) {r w spare : ℕ} {heldₗ starts terms asked estimates tickets places : List ℕ}
      (v : Passed d (take i d.jobs) r w spare heldₗ starts terms asked estimates tickets places) where
    pub passed_all : Passed d L r w spare heldₗ starts terms asked estimates tickets places
    passed_all =
        let k : running (take i d.jobs) ≡ running L = ap running (front a) ∙ keep_pad i unused is_holding L refl in
        let q : queue (take i d.jobs) ≡ queue L = ap queue (front a) ∙ keep_pad i unused is_waiting L refl in
        let n : nodes_held (take i d.jobs) ≡ nodes_held L = ap nodes_held (front a) ∙ sum_pad i unused held L refl in
        record {
          running_is = sym (ap length k) ∙ v.running_is;
          held_is = subst (λ (js : List Job). Column nodes_of js heldₗ) k v.held_is;
          starts_are = subst (λ (js : List Job). Column from_of js starts) k v.starts_are;
          terms_are = subst (λ (js : List Job). Column term_of js terms) k v.terms_are;
          spare_is = omega (arith, v.spare_is);
          waiting_is = sym (ap length q) ∙ v.waiting_is;
          asked_is = subst (λ (js : List Job). Column nodes_of js asked) q v.asked_is;
          estimates_are = subst (λ (js : List Job). Column estimate_of js estimates) q v.estimates_are;
          tickets_are = subst (λ (js : List Job). Column ticket_of js tickets) q v.tickets_are;
          slots_are = subst (λ (js : List Job). SlotColumn d.jobs js places) q v.slots_are;
        }

-- ## What the lists stand for

asks_those : (js : List Job) → map asks (queue js) ≡ map nodes_of (queue js)
asks_those [] = refl
asks_those (j ∷ js) = case (is_waiting j) (λ e. rw (e, e, asks_those js)) (λ e. rw (e, asks_those js))

pub from_low : (m : Model) → Sound m → (j : Job) → In j m.jobs → from_of j ≤ horizon
from_low m s j i = let l = sound_low m s j i in case (is_cleaning j) (λ c. rw c l.1) (λ c. rw c l.0)

module _ (d : Scheduler) (h : Holds Ready d) {r w spare : ℕ} {heldₗ starts terms asked estimates tickets places : List ℕ}
    (v : Passed d (view d).jobs r w spare heldₗ starts terms asked estimates tickets places) where
  abbrev js : List Job
  js = (view d).jobs

  abbrev pub starts_of : StartsInTime starts terms r
  starts_of = record {
    jobs = running js;
    starts_are = v.starts_are;
    terms_are = v.terms_are;
    count_is = v.running_is;
    few = omega (arith, v.running_is, length_keep_le is_holding js, h.holds.sound.few);
    low = λ j i. from_low (view d) h.holds.sound j (keep_in is_holding js i).0;
  }

  pub spare_free : spare ≡ free (view d)
  unfolding view
  spare_free = omega (arith, v.spare_is)

  pub waits_of : WaitingColumns (view d) (queue js) asked estimates w
  waits_of = record {
    asked_is = v.asked_is ∙ ap (pad slots 0) (sym (asks_those js));
    estimates_is = v.estimates_are;
    count_is = v.waiting_is;
    few = omega (arith, v.waiting_is, length_keep_le is_waiting js, h.holds.sound.few);
    asc = asc_keep is_waiting 1 js h.holds.sound.asc;
    queue_is = keep_all is_waiting (queue js) (λ j i. (keep_in is_waiting js i).1);
  }

  pub clock_of : d.clock ≡ (view d).clock
  unfolding view
  clock_of = refl

  pub settings_of : d.settings ≡ (view d).settings
  unfolding view
  settings_of = refl

  abbrev pub surveyed : (clock : ℕ) → clock ≡ d.clock → (S : Settings) → S ≡ d.settings → (ends : List ℕ) → Column (until S) (running js) ends
      → Surveyed heldₗ ends r asked estimates w clock spare S
  surveyed clock e S z ends c = record {
    model = view d;
    ready = h.holds;
    settings_is = z ∙ settings_of;
    clock_is = e ∙ clock_of;
    jobs = running js;
    holding = record {
      releasing = sound_releasing (view d) h.holds.sound;
      runs = record { each = λ j i. (keep_in is_holding js i).1; same = λ f. sum_picked f is_holding js };
      held_is = v.held_is;
      ends_is = subst (λ (T : Settings). Column (until T) (running js) ends) (z ∙ settings_of) c;
      count_is = v.running_is;
      spare_is = spare_free;
    };
    asking = queue js;
    waits = waits_of;
  }

-- ## From when nodes are held, until when

-- an estimate of 0 has no wall time, so that its hold is the cleanup alone
none_runs : (S : Settings) → run_time S 0 ≡ 0
unfolding run_time
none_runs S = refl

pub until_from : (S : Settings) (j : Job) → until S j ≡ from_of j + hold_time S (term_of j)
until_from S j =
    case (is_cleaning j)
    (λ c. rw c (omega (arith, until_cleaning S j c, hold_is S 0, none_runs S)))
    (λ c. rw c (until_is S j c))

module _ (S : Settings) (ys : List Job) where
  abbrev pub filled : ℕ → List ℕ
  filled i = map (until S) (take i ys) ++ map from_of (drop i ys)

  module _ (i : ℕ) (l : i < length ys) where
    abbrev y : Job
    y = get_or ys i unused

    mid : map from_of (drop i ys) ≡ from_of y ∷ map from_of (drop (i + 1) ys)
    mid = rw (add-one, drop-cons ys i unused l)

    len : length (map (until S) (take i ys)) ≡ i
    len = length-map (take i ys) (until S) ∙ length-take-le i ys (omega arith)

    long : i < length (filled i)
    long = rw mid (omega (arith, length-append (map (until S) (take i ys)) (from_of y ∷ map from_of (drop (i + 1) ys)), len))

    pub from_there : get_or (pad slots 0 (filled i)) i 0 ≡ from_of y
    unfolding pad
    from_there =
        get_or-append (filled i) (replicate (slots - length (filled i)) 0) 0 i long
        ∙ ap (λ (ns : List ℕ). get_or (map (until S) (take i ys) ++ ns) i 0) mid
        ∙ get_or_at (map (until S) (take i ys)) (from_of y) (map from_of (drop (i + 1) ys)) 0 i len

    pub fill_next : set (pad slots 0 (filled i)) i (until S y) ≡ pad slots 0 (filled (i + 1))
    fill_next =
        pad_set slots 0 (filled i) i (until S y) long
        ∙ ap (λ (ns : List ℕ). pad slots 0 (set (map (until S) (take i ys) ++ ns) i (until S y))) mid
        ∙ ap (pad slots 0) (set_at (map (until S) (take i ys)) (from_of y) (map from_of (drop (i + 1) ys)) (until S y) i len ∙ more)
      where
        more : map (until S) (take i ys) ++ (until S y ∷ map from_of (drop (i + 1) ys)) ≡ filled (i + 1)
        more = rw (add-one, take-suc ys i unused l, map-append (until S) (take i ys) (y ∷ []), append_assoc)

  pub fill_done : (i : ℕ) → length ys ≤ i → filled i ≡ map (until S) ys
  fill_done i l = rw (take_all i ys l, drop_of_length-le ys l) (append-nil (map (until S) ys))
