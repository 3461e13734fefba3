-- Who holds nodes, where jobs leave, are changed or come in.
-- Assumes nothing.
use Rattle.std.specs.Prelude.{ℕ, zero, suc, ◌≤◌, ◌<◌, ◌≡◌, refl, Bool, true, false, not, cond, List, [], ◌∷◌, map, length, get_or, set}
use Rattle.std.proofs.Common.{arith, sym, ap, ◌∙◌, eqb-true, eq-eqb, ne_eqb}
use Rattle.lists.specs.Tests.{case, on, on_le}
use Rattle.lists.specs.Lists.{In, keep, sum, in_getD, map_in, keep_in, map_same, sum_append, sum_map, sum_picked, sum_cong, sum_zero, sum_in, sum_le}
use Rattle.scheduler.specs.declared.Job.{Job}
use Rattle.scheduler.specs.Jobs.{unused, is_holding}
use Rattle.scheduler.specs.Model.{Model, joined}
use Rattle.jobs.specs.Order.{Asc, asc_in}
use Rattle.job_columns.specs.Searches.{has_ticket}
use Rattle.easy_engine.specs.Survey.{Runs}

-- ## All that a test keeps, each changed in a way that leaves whether it holds nodes

module _ (m n : Model) (p : Job → Bool) (g : Job → Job) (still : (j : Job) → is_holding (g j) ≡ is_holding j) (e : n.jobs ≡ map g (keep p m.jobs))
    (rs : List Job) (r : Runs m rs) where
  pub runs_kept : Runs n (map g (keep p rs))
  runs_kept = record {
    each = λ j i.
        let k = map_in g (keep p rs) i in
        ap is_holding k.2 ∙ still k.0 ∙ r.each k.0 (keep_in p rs k.1).0;
    same = all;
  }
    where
      swap : (f : Job → ℕ) (j : Job) → on (is_holding j) (on (p j) (f (g j))) ≡ on (p j) (on (is_holding (g j)) (f (g j)))
      swap f j = case (p j) (λ a. rw (a, still j)) (λ a. rw a (case (is_holding j) (λ b. rw b) (λ b. rw b)))

      all : (f : Job → ℕ) → sum f (map g (keep p rs)) ≡ sum (λ (j : Job). on (is_holding j) (f j)) n.jobs
      all f =
          sum_map f g (keep p rs)
          ∙ sum_picked (λ (j : Job). f (g j)) p rs
          ∙ r.same (λ (j : Job). on (p j) (f (g j)))
          ∙ sum_cong (λ (j : Job). on (is_holding j) (on (p j) (f (g j)))) (λ (j : Job). on (p j) (on (is_holding (g j)) (f (g j)))) m.jobs (λ j i. swap f j)
          ∙ sym (sum_picked (λ (j : Job). on (is_holding (g j)) (f (g j))) p m.jobs)
          ∙ sym (sum_map (λ (j : Job). on (is_holding j) (f j)) g (keep p m.jobs))
          ∙ sym (ap (sum (λ (j : Job). on (is_holding j) (f j))) e)

-- the same where these stand for those that a test keeps
pub runs_alike : (n : Model) (p : Job → Bool) (g : Job → Job) (rs xs : List Job) → Runs n (map g (keep p rs))
    → ((j : Job) → In j xs → is_holding (g j) ≡ true) → ((f : Job → ℕ) → sum f xs ≡ sum (λ (j : Job). on (p j) (f j)) rs) → Runs n (map g xs)
runs_alike n p g rs xs r h e = record {
  each = λ j i. let k = map_in g xs i in ap is_holding k.2 ∙ h k.0 k.1;
  same = λ f.
      sum_map f g xs
      ∙ e (λ (j : Job). f (g j))
      ∙ sym (sum_picked (λ (j : Job). f (g j)) p rs)
      ∙ sym (sum_map f g (keep p rs))
      ∙ r.same f;
}

-- one that comes in and waits holds none
pub runs_joined : (m : Model) (k : Job) → is_holding k ≡ false → (rs : List Job) → Runs m rs → Runs (joined m k) rs
runs_joined m k e rs r = record {
  each = r.each;
  same = λ f.
      let z : on (is_holding k) (f k) ≡ 0 = rw e in
      omega (arith, r.same f, sum_append (λ (j : Job). on (is_holding j) (f j)) m.jobs (k ∷ []));
}

-- ## Tickets

pub asc_once : (t lo : ℕ) (js : List Job) → Asc lo js → sum (λ (j : Job). on (has_ticket t j) 1) js ≤ 1
asc_once t lo [] a = omega arith
asc_once t lo (j ∷ js) a =
    case (has_ticket t j)
    (λ e. let q = eqb-true j.ticket t e in
    rw e (omega (
      arith,
      sum_zero (λ (k : Job). on (has_ticket t k) 1) js (λ k i. rw (ne_eqb k.ticket t (λ z. omega (arith, asc_in (suc j.ticket) js a.1 i)))),
    )))
    (λ e. rw e (omega (arith, asc_once t (suc j.ticket) js a.1)))

-- ## What holds of the model's jobs that hold nodes holds of these

module _ (m : Model) (rs : List Job) (r : Runs m rs) where
  pub runs_have : (p : Job → Bool) → ((j : Job) → In j m.jobs → is_holding j ≡ true → p j ≡ true) → (j : Job) → In j rs → p j ≡ true
  runs_have p f j i =
      case (p j)
      (λ e. e)
      (λ e. let one : on (not (p j)) 1 ≡ 1 = rw e in
      absurd (omega (
        arith,
        sum_in (λ (k : Job). on (not (p k)) 1) i,
        r.same (λ (k : Job). on (not (p k)) 1),
        sum_zero (λ (k : Job). on (is_holding k) (on (not (p k)) 1)) m.jobs none,
      )))
    where
      none : (k : Job) → In k m.jobs → on (is_holding k) (on (not (p k)) 1) ≡ 0
      none k l = case (is_holding k) (λ h. rw (h, f k l h)) (λ h. rw h)

  -- no ticket is there twice
  pub runs_once : (t : ℕ) → Asc 1 m.jobs → sum (λ (j : Job). on (has_ticket t j) 1) rs ≤ 1
  runs_once t a =
      omega (
        arith,
        r.same (λ (j : Job). on (has_ticket t j) 1),
        sum_le (λ (j : Job). on (is_holding j) (on (has_ticket t j) 1)) (λ (j : Job). on (has_ticket t j) 1) m.jobs (λ j i.
            on_le (is_holding j) (on (has_ticket t j) 1)),
        asc_once t 1 m.jobs a,
      )

  -- and one that holds nodes is there
  pub runs_there : (j : Job) → In j m.jobs → is_holding j ≡ true → 1 ≤ sum (λ (k : Job). on (has_ticket j.ticket k) 1) rs
  runs_there j i h =
      let one : on (is_holding j) (on (has_ticket j.ticket j) 1) ≡ 1 = rw (h, eq-eqb j.ticket j.ticket refl) in
      omega (
        arith,
        r.same (λ (k : Job). on (has_ticket j.ticket k) 1),
        sum_in (λ (k : Job). on (is_holding k) (on (has_ticket j.ticket k) 1)) i,
      )

-- ## A change of the one that passes a test is one store

pub once_set : (p : Job → Bool) (g : Job → Job) (rs : List Job) (i : ℕ) → i < length rs → p (get_or rs i unused) ≡ true → sum (λ (j : Job). on (p j) 1) rs ≤ 1
    → map (λ (j : Job). cond (p j) (g j) j) rs ≡ set rs i (g (get_or rs i unused))
once_set p g [] i l e s = absurd (omega arith)
once_set p g (x ∷ xs) zero l e s =
    let one : on (p x) 1 ≡ 1 = rw e in
    rw e (ap (λ (ys : List Job). g x ∷ ys) (map_same (λ (j : Job). cond (p j) (g j) j) xs (λ k i. none k i (omega arith))))
  where
    none : (k : Job) → In k xs → sum (λ (j : Job). on (p j) 1) xs ≤ 0 → cond (p k) (g k) k ≡ k
    none k i z =
        case (p k)
        (λ q. let two : on (p k) 1 ≡ 1 = rw q in absurd (omega (arith, sum_in (λ (j : Job). on (p j) 1) i)))
        (λ q. rw q)
once_set p g (x ∷ xs) (suc i) l e s =
    let one : on (p (get_or xs i unused)) 1 ≡ 1 = rw e in
    let more = sum_in (λ (j : Job). on (p j) 1) (in_getD xs i unused (omega arith)) in
    case (p x)
    (λ q. let two : on (p x) 1 ≡ 1 = rw q in absurd (omega arith))
    (λ q. let zero' : on (p x) 1 ≡ 0 = rw q in rw q (ap (λ (ys : List Job). x ∷ ys) (once_set p g xs i (omega arith) e (omega arith))))

-- and where it leaves, what leaves is its own share
pub once_sum : (p : Job → Bool) (f : Job → ℕ) (rs : List Job) (i : ℕ) → i < length rs → p (get_or rs i unused) ≡ true → sum (λ (j : Job). on (p j) 1) rs ≤ 1
    → sum (λ (j : Job). on (p j) (f j)) rs ≡ f (get_or rs i unused)
once_sum p f [] i l e s = absurd (omega arith)
once_sum p f (x ∷ xs) zero l e s =
    let one : on (p x) 1 ≡ 1 = rw e in
    let own : on (p x) (f x) ≡ f x = rw e in
    omega (arith, sum_zero (λ (j : Job). on (p j) (f j)) xs (λ k i. none k i (omega arith)))
  where
    none : (k : Job) → In k xs → sum (λ (j : Job). on (p j) 1) xs ≤ 0 → on (p k) (f k) ≡ 0
    none k i z =
        case (p k)
        (λ q. let two : on (p k) 1 ≡ 1 = rw q in absurd (omega (arith, sum_in (λ (j : Job). on (p j) 1) i)))
        (λ q. rw q)
once_sum p f (x ∷ xs) (suc i) l e s =
    let one : on (p (get_or xs i unused)) 1 ≡ 1 = rw e in
    let more = sum_in (λ (j : Job). on (p j) 1) (in_getD xs i unused (omega arith)) in
    case (p x)
    (λ q. let two : on (p x) 1 ≡ 1 = rw q in absurd (omega arith))
    (λ q. let none : on (p x) 1 ≡ 0 = rw q in
    let own : on (p x) (f x) ≡ 0 = rw q in
    omega (arith, once_sum p f xs i (omega arith) e (omega arith)))
