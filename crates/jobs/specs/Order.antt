-- Jobs in ticket order.
-- Assumes nothing.
use Rattle.std.specs.Prelude.{ℕ, suc, ◌+◌, ◌≤◌, ◌<◌, ◌≡◌, refl, Bool, true, false, ◌||◌, List, [], ◌∷◌, ◌++◌, ◌⊎◌, eqb}
use Rattle.std.proofs.Common.{arith, sym, ap, ◌∙◌, inl, inr, eqb-true, eq-eqb}
use Rattle.lists.specs.Tests.{case, true_false, either}
use Rattle.lists.specs.Lists.{keep, elem, In, here, there, in_nil, in_cons, keep_in, in_keep, keep_cong}
use Rattle.scheduler.specs.declared.Job.{Job}
use Rattle.scheduler.specs.Table.{ticket_of, tickets_of}

-- tickets from lo on, ascending
abbrev pub Asc : ℕ → List Job → Type 0
Asc lo [] = Unit {0}
Asc lo (j ∷ js) = (lo ≤ j.ticket) × Asc (suc j.ticket) js

pub asc_from : (lo lo' : ℕ) (js : List Job) → lo' ≤ lo → Asc lo js → Asc lo' js
asc_from lo lo' [] l a = tt
asc_from lo lo' (j ∷ js) l a = (omega arith, a.1)

pub asc_in : (lo : ℕ) (js : List Job) {j : Job} → Asc lo js → In j js → lo ≤ j.ticket
asc_in lo [] a i = in_nil i
asc_in lo (x ∷ xs) {j} a i = go (in_cons i) (λ k. asc_in (suc x.ticket) xs a.1 k)
  where
    go : (j ≡ x) ⊎ In j xs → (In j xs → suc x.ticket ≤ j.ticket) → lo ≤ j.ticket
    go (inl e) f = omega (arith, ap ticket_of e)
    go (inr k) f = omega (arith, f k)

pub asc_keep : (p : Job → Bool) (lo : ℕ) (js : List Job) → Asc lo js → Asc lo (keep p js)
asc_keep p lo [] a = tt
asc_keep p lo (j ∷ js) a =
    case (p j) (λ e. rw e (a.0, asc_keep p (suc j.ticket) js a.1))
    (λ e. rw e (asc_from (suc j.ticket) lo (keep p js) (omega arith) (asc_keep p (suc j.ticket) js a.1)))

pub asc_append : (lo n : ℕ) (js : List Job) (k : Job) → Asc lo js → ((j : Job) → In j js → j.ticket < n) → lo ≤ n → k.ticket ≡ n → Asc lo (js ++ (k ∷ []))
asc_append lo n [] k a f l e = (omega arith, tt)
asc_append lo n (j ∷ js) k a f l e = (a.0, asc_append (suc j.ticket) n js k a.1 (λ x i. f x (there i)) (f j (here refl)) e)

-- a list with the same tickets is in the same order
pub asc_same : (lo : ℕ) (js ks : List Job) → tickets_of js ≡ tickets_of ks → Asc lo js → Asc lo ks
asc_same lo [] [] e a = tt
asc_same lo [] (k ∷ ks) e a = absurd (let z : ◌≡◌ {A = ℕ} 0 1 = cc in omega arith)
asc_same lo (j ∷ js) [] e a = absurd (let z : ◌≡◌ {A = ℕ} 0 1 = cc in omega arith)
asc_same lo (j ∷ js) (k ∷ ks) e a =
    let t : j.ticket ≡ k.ticket = cc in
    let r : tickets_of js ≡ tickets_of ks = cc in
    (omega arith, asc_same (suc k.ticket) js ks r (rw t at a.1))

-- tickets tell jobs apart
pub asc_one : (lo : ℕ) (js : List Job) (j k : Job) → Asc lo js → In j js → In k js → j.ticket ≡ k.ticket → j ≡ k
asc_one lo [] j k a i l e = in_nil i
asc_one lo (x ∷ xs) j k a i l e = go (in_cons i) (in_cons l) (λ u v. asc_one (suc x.ticket) xs j k a.1 u v e)
  where
    go : (j ≡ x) ⊎ In j xs → (k ≡ x) ⊎ In k xs → (In j xs → In k xs → j ≡ k) → j ≡ k
    go (inl p) (inl q) f = p ∙ sym q
    go (inl p) (inr v) f = absurd (omega (arith, asc_in (suc x.ticket) xs a.1 v, ap ticket_of p))
    go (inr u) (inl q) f = absurd (omega (arith, asc_in (suc x.ticket) xs a.1 u, ap ticket_of q))
    go (inr u) (inr v) f = f u v

-- a ticket of a list stands for a job of it
pub elem_job : (t : ℕ) (js : List Job) → elem t (tickets_of js) ≡ true → (j : Job) × In j js × (j.ticket ≡ t)
elem_job t [] e = true_false false e refl
elem_job t (x ∷ xs) e = go (either (eqb t x.ticket) (elem t (tickets_of xs)) e) (λ k. elem_job t xs k)
  where
    go : (eqb t x.ticket ≡ true) ⊎ (elem t (tickets_of xs) ≡ true) → (elem t (tickets_of xs) ≡ true → (j : Job) × In j xs × (j.ticket ≡ t))
        → (j : Job) × In j (x ∷ xs) × (j.ticket ≡ t)
    go (inl p) f = (x, here refl, sym (eqb-true t x.ticket p))
    go (inr q) f = let r = f q in (r.0, there r.1, r.2)

pub job_elem : (js : List Job) {j : Job} → In j js → elem j.ticket (tickets_of js) ≡ true
job_elem [] i = in_nil i
job_elem (x ∷ xs) {j} i = go (in_cons i) (λ k. job_elem xs k)
  where
    go : (j ≡ x) ⊎ In j xs → (In j xs → elem j.ticket (tickets_of xs) ≡ true) → (eqb j.ticket x.ticket || elem j.ticket (tickets_of xs)) ≡ true
    go (inl e) f = rw (eq-eqb j.ticket x.ticket (ap ticket_of e))
    go (inr k) f = case (eqb j.ticket x.ticket) (λ e. rw e) (λ e. rw e (f k))

-- a job's ticket is among those of the jobs that a test picks if and only if the test picks it
pub elem_picked : (p : Job → Bool) (lo : ℕ) (js : List Job) (j : Job) → Asc lo js → In j js → elem j.ticket (tickets_of (keep p js)) ≡ p j
elem_picked p lo js j a i =
    case (elem j.ticket (tickets_of (keep p js)))
    (λ e. let r = elem_job j.ticket (keep p js) e in
    let k = keep_in p js r.1 in
    e ∙ sym (ap p (asc_one lo js j r.0 a i k.0 (sym r.2)) ∙ k.1))
    (λ e. case (p j) (λ q. true_false (elem j.ticket (tickets_of (keep p js))) (picked q) e) (λ q. e ∙ sym q))
  where
    picked : p j ≡ true → elem j.ticket (tickets_of (keep p js)) ≡ true
    picked q = job_elem (keep p js) (in_keep p i q)

-- the tickets of those that pass a test tell who passes it
tickets_tell : (p : Job → Bool) (lo : ℕ) (js : List Job) → Asc lo js → (j : Job) → In j js → elem j.ticket (tickets_of (keep p js)) ≡ p j
tickets_tell p lo js a j i =
    case (p j)
    (λ e. job_elem (keep p js) (in_keep p i e) ∙ sym e)
    (λ e. case (elem j.ticket (tickets_of (keep p js)))
    (λ q.
    let k = elem_job j.ticket (keep p js) q in
    let w = keep_in p js k.1 in
    true_false (p j) (ap p (sym (asc_one lo js k.0 j a w.0 i k.2)) ∙ w.1) e)
    (λ q. q ∙ sym e))

pub keep_tickets : (p : Job → Bool) (lo : ℕ) (js : List Job) → Asc lo js → keep (λ (j : Job). elem j.ticket (tickets_of (keep p js))) js ≡ keep p js
keep_tickets p lo js a = keep_cong (λ (j : Job). elem j.ticket (tickets_of (keep p js))) p js (tickets_tell p lo js a)
