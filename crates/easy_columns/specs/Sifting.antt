-- Holders leave the lists, in any order: the last of them takes the place of one that leaves.
-- Assumes nothing.
use Rattle.std.specs.Prelude.{ℕ, zero, suc, ◌+◌, ◌-◌, ◌≤◌, ◌<◌, ◌≡◌, refl, Bool, true, false, not, List, [], ◌∷◌, ◌++◌, map, ◌⊎◌, eqb, length, get_or, set, take, replicate}
use Rattle.std.proofs.Common.{arith, sym, ap, subst, ◌∙◌, append_assoc, inl, inr, length-set, length-take-le, take-suc, take_all, get_or-take, get_or-set_same, get_or-set_other, eqb-true, ne_eqb, eq-eqb}
use Rattle.std.proofs.lemmas.List.{map-append, length-map, set_at}
use Rattle.std.proofs.lemmas.Bool.{eqb-false}
use Rattle.lists.specs.Tests.{case, on, on_le}
use Rattle.lists.specs.Lists.{In, here, there, in_nil, in_cons, in_getD, sum, sum_append, sum_cong, sum_in, sum_le, sum_zero}
use Rattle.lists.specs.Loops.{sum_set}
use Rattle.lists.specs.Pads.{pad}
use Rattle.scheduler.specs.declared.Job.{Job}
use Rattle.scheduler.specs.Limits.{slots, max_nodes}
use Rattle.scheduler.specs.Jobs.{unused}
use Rattle.scheduler.specs.Table.{ticket_of}
use Rattle.job_columns.specs.Columns.{Column, nodes_of, column_at, column_set}

-- ## One leaves

-- the list with the last number in this place, and one place fewer
abbrev pub taken_out : (at last : ℕ) → List ℕ → List ℕ
taken_out at last list = set (set list at (get_or list last 0)) last 0

-- the same of jobs
abbrev pub without : (at last : ℕ) → List Job → List Job
without at last js = take last (set js at (get_or js last unused))

-- the last leaves
column_pop : (f : Job → ℕ) (js : List Job) (list : List ℕ) → Column f js list → (k : ℕ) → length js ≡ k + 1 → k < slots → Column f (take k js) (set list k 0)
unfolding pad
column_pop f js list c k e l =
    let s : take k js ++ (get_or js k unused ∷ []) ≡ js = sym (take-suc js k unused (omega arith)) ∙ take_all (suc k) js (omega arith) in
    let front = map f (take k js) in
    let n : length front ≡ k = length-map (take k js) f ∙ length-take-le k js (omega arith) in
    let a : map f js ≡ front ++ (f (get_or js k unused) ∷ []) = ap (map f) (sym s) ∙ map-append f (take k js) (get_or js k unused ∷ []) in
    let b : slots - length (map f js) ≡ slots - suc k = omega (arith, length-map js f) in
    let d : slots - length front ≡ suc (slots - suc k) = omega arith in
    ap (λ (ns : List ℕ). set ns k 0) c
    ∙ rw (b, a, append_assoc front (f (get_or js k unused) ∷ []) (replicate (slots - suc k) 0), d)
    (set_at front (f (get_or js k unused)) (replicate (slots - suc k) 0) 0 k n)

module _ (js : List Job) (at last : ℕ) (l : at < length js) (e : length js ≡ last + 1) where
  abbrev ys : List Job
  ys = set js at (get_or js last unused)

  ys_length : length ys ≡ last + 1
  ys_length = length-set js at (get_or js last unused) ∙ e

  ys_last : get_or ys last unused ≡ get_or js last unused
  ys_last =
      case (eqb last at)
      (λ q. let z = eqb-true last at q in
      ap (λ (i : ℕ). get_or (set js i (get_or js last unused)) last unused) (sym z) ∙ get_or-set_same js last (get_or js last unused) unused (omega arith))
      (λ q. get_or-set_other js at last (get_or js last unused) unused (eqb-false last at q))

  pub out_column : (f : Job → ℕ) (list : List ℕ) → Column f js list → length js ≤ slots → Column f (without at last js) (taken_out at last list)
  out_column f list c few =
      column_pop f ys (set list at (get_or list last 0))
      (column_set f js list c at (get_or js last unused) (get_or list last 0) l (column_at f js list c unused last (omega arith)))
      last ys_length (omega arith)

  pub out_length : length (without at last js) ≡ last
  out_length = length-take-le last ys (omega (arith, ys_length))

  -- what is left weighs all but what left
  pub out_sum : (f : Job → ℕ) → sum f (without at last js) + f (get_or js at unused) ≡ sum f js
  out_sum f =
      let s : take last ys ++ (get_or ys last unused ∷ []) ≡ ys = sym (take-suc ys last unused (omega (arith, ys_length)))
      ∙ take_all (suc last) ys (omega (arith, ys_length)) in
      omega (
        arith,
        ap (sum f) s,
        sum_append f (take last ys) (get_or ys last unused ∷ []),
        ap f ys_last,
        sum_set unused f js at (get_or js last unused) l,
      )

  -- those before the place are as they were
  pub out_before : (k : ℕ) → k < at → get_or (without at last js) k unused ≡ get_or js k unused
  out_before k h =
      get_or-take last ys k unused (omega arith) ∙ get_or-set_other js at k (get_or js last unused) unused (λ z. omega arith)

  -- who is left was there
  pub out_in : (j : Job) → In j (without at last js) → In j js
  out_in j i = go (set_in js at (taken ys last i))
    where
      taken : (xs : List Job) (n : ℕ) → In j (take n xs) → In j xs
      taken [] zero u = u
      taken [] (suc n) u = u
      taken (x ∷ xs) zero u = in_nil u
      taken (x ∷ xs) (suc n) u = by (in_cons u) (λ v. taken xs n v)
        where
          by : (j ≡ x) ⊎ In j (take n xs) → (In j (take n xs) → In j xs) → In j (x ∷ xs)
          by (inl q) f = here q
          by (inr v) f = there (f v)

      later : (x : Job) (xs : List Job) → (j ≡ get_or js last unused) ⊎ In j xs → (j ≡ get_or js last unused) ⊎ In j (x ∷ xs)
      later x xs (inl q) = inl q
      later x xs (inr v) = inr (there v)

      set_in : (xs : List Job) (k : ℕ) → In j (set xs k (get_or js last unused)) → (j ≡ get_or js last unused) ⊎ In j xs
      set_in [] k u = in_nil u
      set_in (x ∷ xs) zero u = by (in_cons u)
        where
          by : (j ≡ get_or js last unused) ⊎ In j xs → (j ≡ get_or js last unused) ⊎ In j (x ∷ xs)
          by (inl q) = inl q
          by (inr v) = inr (there v)
      set_in (x ∷ xs) (suc k) u = by (in_cons u) (λ v. later x xs (set_in xs k v))
        where
          by : (j ≡ x) ⊎ In j (set xs k (get_or js last unused)) → (In j (set xs k (get_or js last unused)) → (j ≡ get_or js last unused) ⊎ In j (x ∷ xs))
              → (j ≡ get_or js last unused) ⊎ In j (x ∷ xs)
          by (inl q) f = inr (here q)
          by (inr v) f = f v

      go : (j ≡ get_or js last unused) ⊎ In j js → In j js
      go (inl q) = subst (λ (k : Job). In k js) (sym q) (in_getD js last unused (omega arith))
      go (inr v) = v

-- ## All leave whose nodes are free in a minute

-- these lists are of jobs whose nodes are free in these minutes
pub record Sift (held ends holders : List ℕ) (holding spare : ℕ) : Type 0 where
  pub jobs : List Job
  pub frees : Job → ℕ
  pub held_are : Column nodes_of jobs held
  pub ends_are : Column frees jobs ends
  pub holders_are : Column ticket_of jobs holders
  pub count_is : length jobs ≡ holding
  pub few : holding ≤ slots
  pub within : spare + sum nodes_of jobs ≤ max_nodes

abbrev pub goes : (Job → ℕ) → ℕ → Job → Bool
goes e minute j = eqb (e j) minute

-- the nodes that come free
abbrev pub given : (Job → ℕ) → ℕ → Job → ℕ
given e minute j = on (goes e minute j) j.nodes

-- those of xs that stay weigh what those of rs that stay do
abbrev pub SameStay : (Job → ℕ) → ℕ → List Job → List Job → Type 0
SameStay e minute rs xs = (f : Job → ℕ) → sum (λ (j : Job). on (not (goes e minute j)) (f j)) xs ≡ sum (λ (j : Job). on (not (goes e minute j)) (f j)) rs

-- of n jobs the first i stay; who is missing has left
pub record Sifted (rs : List Job) (e : Job → ℕ) (minute spare : ℕ) (held ends holders : List ℕ) (n left i : ℕ) : Type 0 where
  pub jobs : List Job
  pub held_are : Column nodes_of jobs held
  pub ends_are : Column e jobs ends
  pub holders_are : Column ticket_of jobs holders
  pub count_is : length jobs ≡ n
  pub few : n ≤ slots
  pub stay : (k : ℕ) → k < i → goes e minute (get_or jobs k unused) ≡ false
  pub inside : (j : Job) → In j jobs → In j rs
  pub same : SameStay e minute rs jobs
  pub left_is : left + sum (given e minute) jobs ≡ spare + sum (given e minute) rs

module _ {held ends holders : List ℕ} {holding spare : ℕ} (s : Sift held ends holders holding spare) (minute : ℕ) where
  pub sift_first : Sifted s.jobs s.frees minute spare held ends holders holding spare 0
  sift_first = record {
    jobs = s.jobs;
    held_are = s.held_are;
    ends_are = s.ends_are;
    holders_are = s.holders_are;
    count_is = s.count_is;
    few = s.few;
    stay = λ k l. absurd (omega arith);
    inside = λ j i. i;
    same = λ f. refl;
    left_is = refl;
  }

  -- the nodes free are never more than the machine has
  pub sift_within : {held' ends' holders' : List ℕ} {n left i : ℕ} → Sifted s.jobs s.frees minute spare held' ends' holders' n left i → i < n
      → get_or ends' i 0 ≡ minute → left + get_or held' i 0 ≤ max_nodes
  sift_within {held'} {ends'} {left = left} {i = i} v l e =
      let x = get_or v.jobs i unused in
      let l' : i < length v.jobs = omega (arith, v.count_is) in
      let g : given s.frees minute x ≡ get_or held' i 0 =
      rw (eq-eqb (s.frees x) minute (sym (column_at s.frees v.jobs ends' v.ends_are unused i l') ∙ e))
      (sym (column_at nodes_of v.jobs held' v.held_are unused i l')) in
      omega (
        arith,
        v.left_is,
        sum_in (given s.frees minute) (in_getD v.jobs i unused l'),
        sum_le (given s.frees minute) nodes_of s.jobs (λ j i. on_le (goes s.frees minute j) j.nodes),
        s.within,
      )

module _ {rs : List Job} {e : Job → ℕ} {minute spare : ℕ} {held ends holders : List ℕ} {n left i : ℕ}
    (v : Sifted rs e minute spare held ends holders n left i) where
  module _ (l : i < n) where
    abbrev x : Job
    x = get_or v.jobs i unused

    low : i < length v.jobs
    low = omega (arith, v.count_is)

    end_is : get_or ends i 0 ≡ e x
    end_is = column_at e v.jobs ends v.ends_are unused i low

    -- it stays
    pub sift_stays : (get_or ends i 0 ≡ minute → ⊥) → Sifted rs e minute spare held ends holders n left (i + 1)
    sift_stays q = record {
      jobs = v.jobs;
      held_are = v.held_are;
      ends_are = v.ends_are;
      holders_are = v.holders_are;
      count_is = v.count_is;
      few = v.few;
      stay = λ k h.
          case (eqb k i)
          (λ z. ap (λ (p : ℕ). goes e minute (get_or v.jobs p unused)) (eqb-true k i z) ∙ ne_eqb (e x) minute (λ w. q (end_is ∙ w)))
          (λ z. v.stay k (omega (arith, eqb-false k i z)));
      inside = v.inside;
      same = v.same;
      left_is = v.left_is;
    }

    -- it leaves
    pub sift_goes : get_or ends i 0 ≡ minute
        → Sifted rs e minute spare (taken_out i (n - 1) held) (taken_out i (n - 1) ends) (taken_out i (n - 1) holders) (n - 1) (left + get_or held i 0) i
    sift_goes q =
        let last = n - 1 in
        let z : length v.jobs ≡ last + 1 = omega (arith, v.count_is) in
        let few : length v.jobs ≤ slots = omega (arith, v.count_is, v.few) in
        let g : goes e minute x ≡ true = eq-eqb (e x) minute (sym end_is ∙ q) in
        record {
          jobs = without i last v.jobs;
          held_are = out_column v.jobs i last low z nodes_of held v.held_are few;
          ends_are = out_column v.jobs i last low z e ends v.ends_are few;
          holders_are = out_column v.jobs i last low z ticket_of holders v.holders_are few;
          count_is = out_length v.jobs i last low z;
          few = omega (arith, v.few);
          stay = λ k h. ap (goes e minute) (out_before v.jobs i last low z k h) ∙ v.stay k h;
          inside = λ j u. v.inside j (out_in v.jobs i last low z j u);
          same = λ f.
              let none : on (not (goes e minute x)) (f x) ≡ 0 = rw g in
              omega (arith, out_sum v.jobs i last low z (λ (j : Job). on (not (goes e minute j)) (f j)), v.same f);
          left_is =
              let all : given e minute x ≡ get_or held i 0 = rw g (sym (column_at nodes_of v.jobs held v.held_are unused i low)) in
              omega (arith, out_sum v.jobs i last low z (given e minute), v.left_is);
        }

  -- all have been looked at
  module _ (l : n ≤ i) where
    pub sifted_stay : (j : Job) → In j v.jobs → goes e minute j ≡ false
    sifted_stay j u = by v.jobs (λ k h. v.stay k (omega (arith, v.count_is))) u
      where
        by : (xs : List Job) → ((k : ℕ) → k < length xs → goes e minute (get_or xs k unused) ≡ false) → In j xs → goes e minute j ≡ false
        by [] f u = in_nil u
        by (y ∷ ys) f u = go (in_cons u) (λ w. by ys (λ k h. f (suc k) (omega arith)) w)
          where
            go : (j ≡ y) ⊎ In j ys → (In j ys → goes e minute j ≡ false) → goes e minute j ≡ false
            go (inl q) g = ap (goes e minute) q ∙ f 0 (omega arith)
            go (inr w) g = g w

    pub sifted_sum : (f : Job → ℕ) → sum f v.jobs ≡ sum (λ (j : Job). on (not (goes e minute j)) (f j)) rs
    sifted_sum f =
        sum_cong f (λ (j : Job). on (not (goes e minute j)) (f j)) v.jobs (λ j u. rw (sifted_stay j u))
        ∙ v.same f

    pub sifted_left : left ≡ spare + sum (given e minute) rs
    sifted_left = omega (arith, v.left_is, sum_zero (given e minute) v.jobs (λ j u. rw (sifted_stay j u)))
