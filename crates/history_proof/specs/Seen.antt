-- What the entries of a book show is what jobs of a model show: the live ones after a call, who waits, and the nodes held.
-- Assumes nothing.
use Rattle.std.specs.Prelude.{◌≡◌, refl, Bool, true, false, not, ◌&&◌, ◌||◌, List, [], ◌∷◌, ◌++◌, map, ◌⊎◌, ℕ, eqb}
use Rattle.std.proofs.Common.{sym, ap, ◌∙◌, inl, inr, eq-eqb}
use Rattle.std.proofs.lemmas.Simd.{map-map}
use Rattle.std.proofs.lemmas.List.{map-append}
use Rattle.std.proofs.Math.Option.{Option}
use Rattle.std.proofs.lemmas.Bool.{not-true}
use Rattle.lists.specs.Tests.{case, true_false, both, on}
use Rattle.lists.specs.Lists.{keep, elem, In, in_nil, in_cons, keep_append, keep_all, sum, sum_kept, sum_map, sum_cong, All, all_in, keep_keep, keep_cong}
use Rattle.lists.specs.Lists.{keep_map, map_cong}
use Rattle.scheduler.specs.declared.State.{State}
use Rattle.scheduler.specs.declared.State.TheVariants.{Unused, Waiting, Running, Cleanup}
use Rattle.scheduler.specs.declared.Job.{Job}
use Rattle.scheduler.specs.declared.Tenant.{Tenant}
use Rattle.scheduler.specs.Tenants.{same_tenant}
use Rattle.scheduler.specs.Jobs as jobs
use Rattle.scheduler.specs.States.{live?, waiting?, holding?}
use Rattle.scheduler.specs.Table.{nodes_held, of_tenant, live_of, tickets_of}
use Rattle.scheduler.specs.Model.{Live}
use Rattle.scheduler.specs.Answers.{Forecast}
use Rattle.history.specs.News.{Newcomer, News}
use Rattle.history.specs.Book.{Fate, waiting, running, cleaning, ended, withdrawn, Entry, Book, entry, waits, holds, is_waiting, fate_after, marked, entry_ticket, is, hearing, heard}
use Rattle.history.specs.Guarantee.{held_nodes, counts, live_jobs}
use Rattle.history.specs.Beginning.{fate_by}
use Rattle.history_proof.specs.Obligations.{JobShown, shown, live, is_live_of, remark, newly}

abbrev pub seen : Entry → JobShown
seen x = record { ticket = x.ticket; nodes = x.nodes; promise = x.promise; tenant = x.tenant; least = x.least; fate = x.fate }

abbrev pub is_live_entry : Entry → Bool
is_live_entry x = live x.fate

pub keep_seen : (xs : List Entry) → map seen (keep is_live_entry xs) ≡ keep is_live_of (map seen xs)
keep_seen xs = sym (keep_map is_live_of seen xs)

-- ## After an event

pub marked_seen : (k c : ℕ) (e : News) (xs : List Entry) → map seen (map (marked k c e) xs) ≡ map (remark k c e) (map seen xs)
marked_seen k c e xs = map-map seen (marked k c e) xs ∙ sym (map-map (remark k c e) seen xs)

-- an entry that hears a forecast was waiting, head, and had not been head before
pub data Heard (h : Option ℕ) (f : Option Forecast) (y : Entry) : Type 0 where
  same : heard h f y ≡ y → (is_waiting y && is h y.ticket && not y.headed) ≡ false → Heard h f y
  first_time : heard h f y ≡ hearing f y → is_waiting y ≡ true → is h y.ticket ≡ true → y.headed ≡ false → Heard h f y

pub heard_by_lem : (h : Option ℕ) (f : Option Forecast) (y : Entry) → Heard h f y
heard_by_lem h f y =
    case (is_waiting y && is h y.ticket && not y.headed)
    (λ e. let p = both (is_waiting y && is h y.ticket) (not y.headed) e in
    let q = both (is_waiting y) (is h y.ticket) p.0 in
    first_time (rw e) q.0 q.1 (not-true y.headed p.1))
    (λ e. same (rw e) e)

pub heard_seen : (h : Option ℕ) (f : Option Forecast) (ys : List Entry) → map seen (map (heard h f) ys) ≡ map seen ys
heard_seen h f ys = map-map seen (heard h f) ys ∙ map_cong (λ (y : Entry). seen (heard h f y)) seen ys (λ y i. one y (heard_by_lem h f y))
  where
    one : (y : Entry) → Heard h f y → seen (heard h f y) ≡ seen y
    one y (same e t) = ap seen e
    one y (first_time e w i n) = ap seen e

-- who has ended or was withdrawn stays so
ended_stays : (k c : ℕ) (e : News) (t : ℕ) (f : Fate) → (live f && live (fate_after k c e t f)) ≡ live (fate_after k c e t f)
ended_stays k c e t waiting = refl
ended_stays k c e t (running s) = refl
ended_stays k c e t (cleaning s m) = refl
ended_stays k c e t (ended s) = refl
ended_stays k c e t (withdrawn w) = refl

pub drop_ended : (k c : ℕ) (e : News) (xs : List JobShown) → keep is_live_of (map (remark k c e) xs) ≡ keep is_live_of (map (remark k c e) (keep is_live_of xs))
drop_ended k c e xs =
    let after : JobShown → Bool = λ (x : JobShown). is_live_of (remark k c e x) in
    keep_map is_live_of (remark k c e) xs
    ∙ ap (map (remark k c e))
    (sym (keep_keep after is_live_of xs ∙ keep_cong (λ (x : JobShown). is_live_of x && after x) after xs (λ x i. ended_stays k c e x.ticket x.fate)))
    ∙ sym (keep_map is_live_of (remark k c e) (keep is_live_of xs))

-- who comes is live
pub came_seen : (u : ℕ) (b : Book) (xs : List Entry) (os : List Newcomer)
    → keep is_live_of (map seen (xs ++ map (entry u b) os)) ≡ map seen (keep is_live_entry xs) ++ map newly os
came_seen u b xs os =
    ap (keep is_live_of) (map-append seen xs (map (entry u b) os))
    ∙ keep_append is_live_of (map seen xs) (map seen (map (entry u b) os))
    ∙ ap (λ (l : List JobShown). l ++ keep is_live_of (map seen (map (entry u b) os))) (keep_map is_live_of seen xs)
    ∙ ap (λ (l : List JobShown). map seen (keep is_live_entry xs) ++ l)
    (ap (keep is_live_of) (map-map seen (entry u b) os) ∙ keep_map is_live_of newly os ∙ ap (map newly) (keep_all (λ (o : Newcomer). true) os (λ o i. refl)))

-- ## Who waits

-- a ticket in a list is found there
pub in_elem : {t : ℕ} (ts : List ℕ) → In t ts → elem t ts ≡ true
in_elem [] i = in_nil i
in_elem {t} (x ∷ ts) i = case (eqb t x) (λ q. rw q) (λ q. rw q (go q (in_cons i) (λ k. in_elem ts k)))
  where
    go : eqb t x ≡ false → (t ≡ x) ⊎ In t ts → (In t ts → elem t ts ≡ true) → elem t ts ≡ true
    go q (inl z) f = true_false (eqb t x) (eq-eqb t x z) q
    go q (inr k) f = f k

abbrev waits_shown : JobShown → Bool
waits_shown x = waits x.fate

abbrev shown_ticket : JobShown → ℕ
shown_ticket x = x.ticket

abbrev pub queue : List JobShown → List ℕ
queue xs = map shown_ticket (keep waits_shown xs)

waits_live : (f : Fate) → (live f && waits f) ≡ waits f
waits_live waiting = refl
waits_live (running s) = refl
waits_live (cleaning s e) = refl
waits_live (ended s) = refl
waits_live (withdrawn w) = refl

queue_live : (xs : List JobShown) → queue (keep is_live_of xs) ≡ queue xs
queue_live xs =
    ap (map shown_ticket)
    (keep_keep waits_shown is_live_of xs ∙ keep_cong (λ (x : JobShown). is_live_of x && waits_shown x) waits_shown xs (λ x i. waits_live x.fate))

pub queue_seen : (xs : List Entry) → map entry_ticket (keep is_waiting xs) ≡ queue (map seen xs)
queue_seen xs = sym (ap (map shown_ticket) (keep_map waits_shown seen xs) ∙ map-map shown_ticket seen (keep is_waiting xs))

-- a live job waits by what it shows if it waits
pub waits_job : (s : State) (b n : ℕ) → live? s ≡ true → waits (fate_by s b n) ≡ waiting? s
waits_job Unused b n e = true_false false e refl
waits_job Waiting b n e = refl
waits_job Running b n e = refl
waits_job Cleanup b n e = refl

queue_shown : (js : List Job) → All Live js → queue (map shown js) ≡ tickets_of (keep jobs.is_waiting js)
queue_shown js l =
    ap (map shown_ticket) (keep_map waits_shown shown js)
    ∙ map-map shown_ticket shown (keep (λ (j : Job). waits_shown (shown j)) js)
    ∙ ap tickets_of (keep_cong (λ (j : Job). waits_shown (shown j)) jobs.is_waiting js (λ j i. waits_job j.state j.start j.end (all_in Live l i)))

-- the tickets waiting by the book are those waiting by the model
pub same_queue : (js : List Job) (xs : List Entry) → All Live js → map seen (keep is_live_entry xs) ≡ map shown js
    → map entry_ticket (keep is_waiting xs) ≡ tickets_of (keep jobs.is_waiting js)
same_queue js xs l e = queue_seen xs ∙ sym (queue_live (map seen xs)) ∙ ap queue (sym (keep_seen xs) ∙ e) ∙ queue_shown js l

-- ## Who holds nodes

abbrev shown_nodes : JobShown → ℕ
shown_nodes x = on (holds x.fate) x.nodes

holds_live : (f : Fate) → live f ≡ false → holds f ≡ false
holds_live waiting e = refl
holds_live (running s) e = e
holds_live (cleaning s m) e = e
holds_live (ended s) e = refl
holds_live (withdrawn w) e = refl

holds_job : (s : State) (b n : ℕ) → holds (fate_by s b n) ≡ holding? s
holds_job Unused b n = refl
holds_job Waiting b n = refl
holds_job Running b n = refl
holds_job Cleanup b n = refl

-- the live jobs of a tenant, by the book and by the model
abbrev shown_live : Tenant → JobShown → ℕ
shown_live t x = on ((waits x.fate || holds x.fate) && same_tenant x.tenant t) 1

counts_live : (f : Fate) → (waits f || holds f) ≡ live f
counts_live waiting = refl
counts_live (running s) = refl
counts_live (cleaning s m) = refl
counts_live (ended s) = refl
counts_live (withdrawn w) = refl

live_job : (s : State) (b n : ℕ) → live (fate_by s b n) ≡ true
live_job Unused b n = refl
live_job Waiting b n = refl
live_job Running b n = refl
live_job Cleanup b n = refl

pub same_shares : (t : Tenant) (js : List Job) (xs : List Entry) → map seen (keep is_live_entry xs) ≡ map shown js → live_jobs t xs ≡ live_of t js
same_shares t js xs e =
    sym (sum_kept (λ (x : Entry). on (counts t x) 1) is_live_entry xs
    (λ x q. ap (λ (b : Bool). on (b && same_tenant x.tenant t) 1) (counts_live x.fate ∙ q)))
    ∙ sym (sum_map (shown_live t) seen (keep is_live_entry xs))
    ∙ ap (sum (shown_live t)) e
    ∙ sum_map (shown_live t) shown js
    ∙ sum_cong (λ (j : Job). shown_live t (shown j)) (λ (j : Job). on (of_tenant t j) 1) js
    (λ j i. ap (λ (b : Bool). on (b && same_tenant j.tenant t) 1)
    (counts_live (fate_by j.state j.start j.end) ∙ live_job j.state j.start j.end))

-- the nodes held, by the book and by the model
pub same_nodes : (js : List Job) (xs : List Entry) → map seen (keep is_live_entry xs) ≡ map shown js → sum held_nodes xs ≡ nodes_held js
same_nodes js xs e =
    sym (sum_kept held_nodes is_live_entry xs (λ x q. ap (λ (t : Bool). on t x.nodes) (holds_live x.fate q)))
    ∙ sym (sum_map shown_nodes seen (keep is_live_entry xs))
    ∙ ap (sum shown_nodes) e
    ∙ sum_map shown_nodes shown js
    ∙ sum_cong (λ (j : Job). shown_nodes (shown j)) jobs.held js (λ j i. ap (λ (t : Bool). on t j.nodes) (holds_job j.state j.start j.end))
