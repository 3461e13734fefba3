-- Runs end and jobs leave the table: those that remain are written over the first slots one after another, and the slots after them are
-- unused.
-- Assumes nothing.
use Rattle.std.specs.Prelude.{ℕ, suc, ◌+◌, ◌-◌, ◌≤◌, ◌<◌, ◌≡◌, true, false, not, get_or, set}
use Rattle.std.proofs.Common.{arith, add-one, sym, ◌∙◌, length-append, length-drop, take-append-drop, take_all, length-take-le, get_or-drop, get_or-append-add, drop-cons}
use Rattle.std.proofs.Math.Path.{ap}
use mathlib.Core.List.{List, [], ◌∷◌, ◌++◌, map, map-append, append_assoc, append-nil}
use Rattle.std.proofs.Math.ListN.{length, take, drop, replicate}
use Rattle.std.proofs.lemmas.List.{replicate-append-replicate, set_at}
use lib.Seq.{paste}
use lib.ListN.{length-replicate}
use Rattle.std.proofs.Math.Seq.{drop-append_seam, drop-append-add, take-append_seam}
use Rattle.lists.specs.Loops.{keep_take_yes, keep_take_no}
use Rattle.lists.specs.Pads.{pad, pad_push, pad_keep, keep_pad, map_pad, length_pad}
use Rattle.scheduler.specs.declared.Settings.{Settings}
use Rattle.scheduler.specs.declared.Job.{Job}
use Rattle.scheduler.specs.declared.Scheduler.{Scheduler}
use Rattle.scheduler.specs.declared.Select.{Select}
use Rattle.scheduler.specs.declared.Tickets.{Tickets}
use Rattle.scheduler.specs.Limits.{slots}
use Rattle.scheduler.specs.Jobs.{unused, cleaning}
use Rattle.scheduler.specs.Table.{with_jobs, tickets_of, tickets, ends, ended_of, leaves, staying, ceased, remaining}
use Rattle.scheduler.specs.TableLaws.{ends_unused, leaves_unused, ceased_unused}
use Rattle.scheduler.specs.Model.{Model, store, with_model_jobs}

-- ## What leaves and what remains

pub record Removed : Type 0 where
  pub tickets : Tickets
  pub scheduler : Scheduler

-- "The place of a finished stack is used again": the jobs that remain move up, and the slots after them are unused
unfoldable pub removed : Scheduler → (now : ℕ) → Select → Removed
removed d now s = record {
  tickets = tickets (ended_of s d.jobs);
  scheduler = with_jobs d (pad slots unused (remaining d.settings now s d.jobs));
}

-- of unused slots none remains but unused
remaining_pad : (S : Settings) (now : ℕ) (s : Select) (js : List Job) → length js ≤ slots
    → pad slots unused (remaining S now s (pad slots unused js)) ≡ pad slots unused (remaining S now s js)
remaining_pad S now s js few =
    sym (map_pad slots unused (ceased now s) (staying S s (pad slots unused js)) (ceased_unused now s))
    ∙ ap (map (ceased now s)) (pad_keep slots unused (λ (j : Job). not (leaves S s j)) js (ap not (leaves_unused S s)) few)
    ∙ map_pad slots unused (ceased now s) (staying S s js) (ceased_unused now s)

pub removed_stored : (m : Model) (now : ℕ) (s : Select) → length m.jobs ≤ slots
    → removed (store m) now s ≡ record {
      tickets = tickets (ended_of s m.jobs);
      scheduler = store (with_model_jobs m (remaining m.settings now s m.jobs));
    }
unfolding removed store
removed_stored m now s few = λ i. record {
  tickets = tickets (tickets_of (keep_pad slots unused (ends s) m.jobs (ends_unused s) i));
  scheduler = with_jobs (store m) (remaining_pad m.settings now s m.jobs few i);
}

-- ## Slots written one after another

-- the first slots have been written, and one more
pub overwrite : (ws xs : List Job) (x : Job) (k : ℕ) → length ws ≡ k → k < length xs → set (ws ++ drop k xs) k x ≡ (ws ++ (x ∷ [])) ++ drop (k + 1) xs
overwrite ws xs x k e h =
    rw (drop-cons xs k unused h, add-one k, append_assoc ws (x ∷ []) (drop (suc k) xs)) (set_at ws (get_or xs k unused) (drop (suc k) xs) x k e)

pub take_written : (ws bs : List Job) (k : ℕ) → length ws ≡ k → take k (ws ++ bs) ≡ ws
take_written ws bs k e = rw (← e) (take-append_seam ws bs)

-- what stands after the first slots is as it was
drop_written : (ws xs : List Job) (k i : ℕ) → length ws ≡ k → k ≤ length xs → k ≤ i → drop i (ws ++ drop k xs) ≡ drop i xs
drop_written ws xs k i e h l =
    let a : i ≡ length ws + (i - k) = omega arith in
    let b : length (take k xs) + (i - k) ≡ i = omega (arith, length-take-le k xs h) in
    ap (λ (n : ℕ). drop n (ws ++ drop k xs)) a
    ∙ drop-append-add ws (drop k xs) (i - k)
    ∙ sym (drop-append-add (take k xs) (drop k xs) (i - k))
    ∙ ap (λ (ys : List Job). drop (length (take k xs) + (i - k)) ys) (take-append-drop k xs)
    ∙ ap (λ (n : ℕ). drop n xs) b

-- no unused slot
pub pad_whole : (xs : List Job) (k : ℕ) → length xs ≡ k → pad k unused xs ≡ xs
unfolding pad
pad_whole xs k e = let z : k - length xs ≡ 0 = omega arith in rw z (append-nil xs)

-- one unused slot more
pub pad_grow : (xs : List Job) (k : ℕ) → length xs ≤ k → pad (k + 1) unused xs ≡ pad k unused xs ++ (unused ∷ [])
unfolding pad
pad_grow xs k h =
    let e : k + 1 - length xs ≡ (k - length xs) + 1 = omega arith in
    rw (e, append_assoc xs (replicate (k - length xs) unused) (unused ∷ []), ← replicate-append-replicate (k - length xs) 1 unused)

-- over the first i slots of d, what `removed` says of all: whose runs end, and who remains
pub record Listed (s : Select) (d : Scheduler) (list : List ℕ) (gone i : ℕ) : Type 0 where
  pub gone_low : gone ≤ i
  pub gone_is : gone ≡ length (ended_of s (take i d.jobs))
  pub list_is : list ≡ pad 64 0 (ended_of s (take i d.jobs))

pub record Stored (now : ℕ) (s : Select) (d e : Scheduler) (kept i : ℕ) : Type 0 where
  pub kept_low : kept ≤ i
  pub kept_is : kept ≡ length (remaining d.settings now s (take i d.jobs))
  pub scheduler_is : e ≡ with_jobs d (remaining d.settings now s (take i d.jobs) ++ drop kept d.jobs)

pub record Compacts (now : ℕ) (s : Select) (d e : Scheduler) (list : List ℕ) (kept gone i : ℕ) : Type 0 where
  pub low : i ≤ 64
  pub listed : Listed s d list gone i
  pub stored : Stored now s d e kept i

module _ {now : ℕ} {s : Select} {d e : Scheduler} {list : List ℕ} {kept gone i : ℕ} (v : Compacts now s d e list kept gone i) (len : length d.jobs ≡ 64)
    (h : i < 64) where
  abbrev xs : List Job
  xs = d.jobs

  abbrev x : Job
  x = get_or xs i unused

  abbrev S : Settings
  S = d.settings

  abbrev left : List Job
  left = remaining S now s (take i xs)

  inside : i < length xs
  inside = omega arith

  -- the slot is as it was
  pub still_there : get_or e.jobs i unused ≡ x
  still_there =
      let n : i ≡ length left + (i - kept) = omega (arith, v.stored.kept_is, v.stored.kept_low) in
      let k : kept + (i - kept) ≡ i = omega (arith, v.stored.kept_low) in
      ap (λ (y : Scheduler). get_or y.jobs i unused) v.stored.scheduler_is
      ∙ ap (λ (m : ℕ). get_or (left ++ drop kept xs) m unused) n
      ∙ get_or-append-add left (drop kept xs) (i - kept) unused
      ∙ get_or-drop kept xs (i - kept) unused
      ∙ ap (λ (m : ℕ). get_or xs m unused) k

  -- its run ends, or not
  listed_yes : ends s x ≡ true → Listed s d (set list gone x.ticket) (gone + 1) (i + 1)
  listed_yes t =
      let eG = keep_take_yes unused (ends s) xs i inside t in
      record {
        gone_low = omega (arith, v.listed.gone_low);
        gone_is = rw (eG, map-append, length-append) (ap (λ (n : ℕ). n + 1) v.listed.gone_is);
        list_is =
            rw (eG, map-append)
            (ap (λ (l : List ℕ). set l gone x.ticket) v.listed.list_is
            ∙ pad_push 64 0 (ended_of s (take i xs)) x.ticket gone (sym v.listed.gone_is) (omega (arith, v.listed.gone_low)));
      }

  listed_no : ends s x ≡ false → Listed s d list gone (i + 1)
  listed_no t =
      let eG = keep_take_no unused (ends s) xs i inside t in
      record {
        gone_low = omega (arith, v.listed.gone_low);
        gone_is = rw eG v.listed.gone_is;
        list_is = rw eG v.listed.list_is;
      }

  -- it remains, or not
  stored_yes : leaves S s x ≡ false → (y : Job) → y ≡ ceased now s x → Stored now s d (with_jobs e (set e.jobs kept y)) (kept + 1) (i + 1)
  stored_yes t y q =
      let grown : remaining S now s (take (i + 1) xs) ≡ left ++ (y ∷ []) =
      ap (map (ceased now s)) (keep_take_yes unused (λ (j : Job). not (leaves S s j)) xs i inside (ap not t))
      ∙ map-append (ceased now s) (staying S s (take i xs)) (x ∷ [])
      ∙ ap (λ (z : Job). left ++ (z ∷ [])) (sym q) in
      record {
        kept_low = omega (arith, v.stored.kept_low);
        kept_is = rw (grown, length-append) (ap (λ (n : ℕ). n + 1) v.stored.kept_is);
        scheduler_is =
            rw grown
            (ap (λ (z : Scheduler). with_jobs z (set z.jobs kept y)) v.stored.scheduler_is
            ∙ ap (with_jobs d) (overwrite left xs y kept (sym v.stored.kept_is) (omega (arith, v.stored.kept_low))));
      }

  stored_no : leaves S s x ≡ true → Stored now s d e kept (i + 1)
  stored_no t =
      let same : remaining S now s (take (i + 1) xs) ≡ left =
      ap (map (ceased now s)) (keep_take_no unused (λ (j : Job). not (leaves S s j)) xs i inside (ap not t)) in
      record {
        kept_low = omega (arith, v.stored.kept_low);
        kept_is = rw same v.stored.kept_is;
        scheduler_is = rw same v.stored.scheduler_is;
      }

  -- the four ways of a slot
  pub gone_step : ends s x ≡ true → leaves S s x ≡ true → Compacts now s d e (set list gone x.ticket) kept (gone + 1) (i + 1)
  gone_step t l = record { low = omega arith; listed = listed_yes t; stored = stored_no l }

  pub cleaning_step : ends s x ≡ true → leaves S s x ≡ false
      → Compacts now s d (with_jobs e (set e.jobs kept (cleaning now x))) (set list gone x.ticket) (kept + 1) (gone + 1) (i + 1)
  cleaning_step t l = record { low = omega arith; listed = listed_yes t; stored = stored_yes l (cleaning now x) (rw t) }

  pub released_step : ends s x ≡ false → leaves S s x ≡ true → Compacts now s d e list kept gone (i + 1)
  released_step t l = record { low = omega arith; listed = listed_no t; stored = stored_no l }

  pub kept_step : ends s x ≡ false → leaves S s x ≡ false → Compacts now s d (with_jobs e (set e.jobs kept x)) list (kept + 1) gone (i + 1)
  kept_step t l = record { low = omega arith; listed = listed_no t; stored = stored_yes l x (rw t) }

-- the slots of d from `from` on, up to i, are unused
pub record Clears (from : ℕ) (d e : Scheduler) (i : ℕ) : Type 0 where
  pub above : from ≤ i
  pub low : i ≤ 64
  pub scheduler_is : e ≡ with_jobs d (pad i unused (take from d.jobs) ++ drop i d.jobs)

pub clears_first : (from : ℕ) (d : Scheduler) → length d.jobs ≡ 64 → from ≤ 64 → Clears from d d from
clears_first from d len l = record {
  above = omega arith;
  low = l;
  scheduler_is =
      ap (with_jobs d)
      (sym (ap (λ (js : List Job). js ++ drop from d.jobs) (pad_whole (take from d.jobs) from (length-take-le from d.jobs (omega arith)))
      ∙ take-append-drop from d.jobs));
}

-- all of them at once
pub clears_at_once : (from i : ℕ) (d : Scheduler) → length d.jobs ≡ 64 → from ≤ i → i ≤ 64
    → Clears from d (with_jobs d (paste d.jobs from (replicate (i - from) unused) (i - from))) i
unfolding pad
clears_at_once from i d len l m =
    let front : length (take from d.jobs) ≡ from = length-take-le from d.jobs (omega arith) in
    let to : from + (i - from) ≡ i = omega arith in
    let rest : length (replicate (i - from) unused) ≤ i - from = omega (arith, length-replicate (i - from) unused) in
    record {
      above = l;
      low = m;
      scheduler_is =
          ap (with_jobs d)
          (rw (take_all (i - from) (replicate (i - from) unused) rest, to, front, append_assoc (take from d.jobs) (replicate (i - from) unused) (drop i d.jobs)));
    }

module _ {from : ℕ} {d e : Scheduler} {i : ℕ} (v : Clears from d e i) (len : length d.jobs ≡ 64) where
  abbrev front : List Job
  front = take from d.jobs

  short : length front ≤ i
  short = omega (arith, length-take-le from d.jobs (omega (arith, v.above, v.low)), v.above)

  pub clears_next : i < 64 → Clears from d (with_jobs e (set e.jobs i unused)) (i + 1)
  clears_next h = record {
    above = omega (arith, v.above);
    low = omega arith;
    scheduler_is =
        ap (λ (y : Scheduler). with_jobs y (set y.jobs i unused)) v.scheduler_is
        ∙ ap (with_jobs d)
        (overwrite (pad i unused front) d.jobs unused i (length_pad i unused front short) (omega arith)
        ∙ ap (λ (js : List Job). js ++ drop (i + 1) d.jobs) (sym (pad_grow front i short)));
  }

  -- where the slots from there on are unused already
  pub clears_done : drop i d.jobs ≡ replicate (64 - i) unused → e ≡ with_jobs d (pad 64 unused front)
  unfolding pad
  clears_done q =
      let k = length front in
      let both : (i - k) + (64 - i) ≡ 64 - k = omega (arith, short, v.low) in
      v.scheduler_is
      ∙ ap (with_jobs d)
      (ap (λ (js : List Job). pad i unused front ++ js) q
      ∙ append_assoc front (replicate (i - k) unused) (replicate (64 - i) unused)
      ∙ ap (λ (js : List Job). front ++ js) (replicate-append-replicate (i - k) (64 - i) unused ∙ ap (λ (n : ℕ). replicate n unused) both))

-- ## Both

module _ {now : ℕ} {s : Select} {d e : Scheduler} {list : List ℕ} {kept gone i : ℕ} (v : Compacts now s d e list kept gone i)
    (len : length d.jobs ≡ 64) where
  pub compacts_length : length e.jobs ≡ 64
  compacts_length =
      omega (
        arith,
        ap (λ (y : Scheduler). length y.jobs) v.stored.scheduler_is,
        length-append (remaining d.settings now s (take i d.jobs)) (drop kept d.jobs),
        length-drop kept d.jobs,
        v.stored.kept_is,
        v.stored.kept_low,
        v.low,
      )

  -- all live jobs have been passed: the slots after them are unused
  module _ (L : List Job) (few : length L ≤ 64) (p : d.jobs ≡ pad 64 unused L) (a : i ≡ length L) where
    lives : take i d.jobs ≡ L
    unfolding pad
    lives = ap (λ (n : ℕ). take n d.jobs) a ∙ ap (take (length L)) p ∙ take-append_seam L (replicate (64 - length L) unused)

    -- what was listed and what remains of them is that of all slots
    ended_all : ended_of s (take i d.jobs) ≡ ended_of s d.jobs
    ended_all =
        ap (ended_of s) lives
        ∙ sym (ap (ended_of s) p ∙ ap tickets_of (keep_pad slots unused (ends s) L (ends_unused s)))

    remaining_all : pad 64 unused (remaining d.settings now s (take i d.jobs)) ≡ pad 64 unused (remaining d.settings now s d.jobs)
    remaining_all =
        ap (λ (js : List Job). pad 64 unused (remaining d.settings now s js)) lives
        ∙ sym (ap (λ (js : List Job). pad 64 unused (remaining d.settings now s js)) p ∙ remaining_pad d.settings now s L few)

    abbrev stays : List Job
    stays = remaining d.settings now s (take i d.jobs)

    rest : drop i e.jobs ≡ replicate (64 - i) unused
    unfolding pad
    rest =
        ap (λ (y : Scheduler). drop i y.jobs) v.stored.scheduler_is
        ∙ drop_written stays d.jobs kept i (sym v.stored.kept_is) (omega (arith, v.stored.kept_low, v.low)) v.stored.kept_low
        ∙ ap (drop i) p
        ∙ ap (λ (n : ℕ). drop n (L ++ replicate (64 - length L) unused)) a
        ∙ drop-append_seam L (replicate (64 - length L) unused)
        ∙ ap (λ (n : ℕ). replicate (64 - n) unused) (sym a)

    pub compacted : {f : Scheduler} {k : ℕ} → Clears kept e f k → k ≡ i
        → record { tickets = record { count = gone; list = list }; scheduler = f } ≡ removed d now s
    unfolding removed tickets
    compacted {f} u b =
        let table : f ≡ with_jobs d (pad 64 unused stays) =
        clears_done u compacts_length (ap (λ (n : ℕ). drop n e.jobs) b ∙ rest ∙ ap (λ (n : ℕ). replicate (64 - n) unused) (sym b))
        ∙ ap (λ (y : Scheduler). with_jobs y (pad 64 unused (take kept y.jobs))) v.stored.scheduler_is
        ∙ ap (λ (js : List Job). with_jobs d (pad 64 unused js)) (take_written stays (drop kept d.jobs) kept (sym v.stored.kept_is)) in
        λ j. record {
          tickets = record { count = (rw ended_all at v.listed.gone_is) j; list = (rw ended_all at v.listed.list_is) j };
          scheduler = (rw remaining_all at table) j;
        }
