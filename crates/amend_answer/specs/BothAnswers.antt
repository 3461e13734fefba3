-- One answer made of two: the answer to the withdrawal of a corrected order and the answer to its submission (document 02, No. 13).
-- Assumes nothing.
use Rattle.std.specs.Prelude.{ℕ, suc, ◌+◌, ◌-◌, ◌≤◌, ◌≡◌, Bool, cond, List, [], ◌∷◌, ◌++◌, replicate}
use native.Mathlib.Omega.{arith}
use Rattle.std.proofs.Math.Path.{refl, ap}
use Rattle.std.proofs.Common.{sym, ◌∙◌, append-nil, append_assoc, eq-eqb}
use Rattle.std.proofs.Math.Option.{Option, none, some}
use Rattle.std.proofs.Math.ListN.{length, take, length-append}
use Rattle.std.proofs.Math.Seq.{sets, take-append_seam}
use Rattle.lists.specs.Pads.{pad, pad_push, length_pad}
use Rattle.scheduler.specs.declared.Tickets.{Tickets}
use Rattle.scheduler.specs.declared.Answer.{Answer}
use Rattle.scheduler.specs.Limits.{slots}
use Rattle.scheduler.specs.Table.{tickets}
use Rattle.scheduler.specs.Answers.{Reply, Forecast, head_ticket, head_minute, answer, reply_of}
use Rattle.amend_rules.specs.Amending.{hears, answered_both}

-- two lists of tickets that fit into one
pub record Lists (first second : Tickets) : Type 0 where
  pub before : List ℕ
  pub after : List ℕ
  pub first_is : first ≡ tickets before
  pub second_is : second ≡ tickets after
  pub few : length before + length after ≤ slots

-- the replies of two answers whose starts fit into one; the first answer says its reply, so that a head of 0 means none
pub record Replies (withdrawal submission : Answer) : Type 0 where
  pub first : Reply
  pub second : Reply
  pub first_is : withdrawal ≡ answer first
  pub second_is : submission ≡ answer second
  pub said : reply_of (answer first) ≡ first
  pub few : length first.started + length second.started ≤ slots

-- ## Tickets after tickets

module _ (n b : ℕ) where
  sets_pad : (us ts : List ℕ) (k : ℕ) → length ts ≡ k → k + length us ≤ n → sets (pad n b ts) k us ≡ pad n b (ts ++ us)
  sets_pad [] ts k e l = ap (pad n b) (sym (append-nil ts))
  sets_pad (u ∷ us) ts k e l =
      ap (λ (x : List ℕ). sets x (suc k) us) (pad_push n b ts u k e (omega arith))
      ∙ sets_pad us (ts ++ (u ∷ [])) (suc k) (omega (arith, length-append ts (u ∷ []))) (omega arith)
      ∙ ap (pad n b) (append_assoc ts (u ∷ []) us)

  front_pad : (us : List ℕ) → take (length us) (pad n b us) ≡ us
  unfolding pad
  front_pad us = take-append_seam us (replicate (n - length us) b)

module _ {first second : Tickets} (l : Lists first second) where
  pub counts : first.count + second.count ≤ slots
  unfolding tickets
  counts = omega (arith, l.few, ap (λ (t : Tickets). t.count) l.first_is, ap (λ (t : Tickets). t.count) l.second_is)

  pub whole : length first.list ≡ slots
  unfolding tickets
  whole = ap (λ (t : Tickets). length t.list) l.first_is ∙ length_pad slots 0 l.before (omega (arith, l.few))

  -- each has its places
  pub room : (first.count ≤ length first.list) × (second.count ≤ length second.list)
  unfolding tickets
  room = (
    omega (
      arith,
      ap (λ (t : Tickets). t.count) l.first_is,
      ap (λ (t : Tickets). length t.list) l.first_is,
      length_pad slots 0 l.before (omega (arith, l.few)),
      l.few,
    ),
    omega (
      arith,
      ap (λ (t : Tickets). t.count) l.second_is,
      ap (λ (t : Tickets). length t.list) l.second_is,
      length_pad slots 0 l.after (omega (arith, l.few)),
      l.few,
    ),
  )

  -- all tickets of the second stand after the first
  pub joined_is : (list : List ℕ) (i : ℕ) → i ≡ second.count → list ≡ sets first.list first.count (take i second.list)
      → record { count = first.count + i; list = list } ≡ tickets (l.before ++ l.after)
  unfolding tickets
  joined_is list i e q =
      let c = ap (λ (t : Tickets). t.count) l.first_is in
      let d = ap (λ (t : Tickets). t.count) l.second_is in
      let n : first.count + i ≡ length (l.before ++ l.after) = omega (arith, length-append l.before l.after) in
      let t : take i second.list ≡ l.after =
      ap (λ (k : ℕ). take k second.list) (e ∙ d) ∙ ap (λ (x : Tickets). take (length l.after) x.list) l.second_is ∙ front_pad slots 0 l.after in
      let s : list ≡ pad slots 0 (l.before ++ l.after) =
      q ∙ ap (sets first.list first.count) t
      ∙ ap (λ (x : Tickets). sets x.list x.count l.after) l.first_is
      ∙ sets_pad slots 0 l.after l.before (length l.before) refl l.few in
      λ j. record { count = n j; list = s j }

-- ## The replies

module _ {withdrawal submission : Answer} (q : Replies withdrawal submission) where
  abbrev pub started_lists : Lists withdrawal.started submission.started
  started_lists = record {
    before = q.first.started;
    after = q.second.started;
    first_is = ap (λ (a : Answer). a.started) q.first_is;
    second_is = ap (λ (a : Answer). a.started) q.second_is;
    few = q.few;
  }

  -- a head of 0 is none
  heard_none : head_ticket q.first.head ≡ 0 → q.first.head ≡ none
  heard_none e =
      sym (ap (λ (r : Reply). r.head) q.said) ∙ ap (λ (b : Bool). cond b none (some (record { ticket = head_ticket q.first.head; minute = head_minute q.first.head }))) (eq-eqb (head_ticket q.first.head) 0 e)

  -- the head that the submission made, where the withdrawal made none
  hears_second : head_ticket q.first.head ≡ 0 → hears q.first.head q.second.head ≡ q.second.head
  hears_second e = ap (λ (f : Option Forecast). hears f q.second.head) (heard_none e)

  hears_first : (f g : Option Forecast) → (head_ticket f ≡ 0 → ⊥) → hears f g ≡ f
  hears_first none g n = absurd (n refl)
  hears_first (some f) g n = refl

  -- the answer with this head
  abbrev pub joined_answer : (ended started : Tickets) → (head forecast : ℕ) → Answer
  joined_answer es ts h f = record {
    refusal = submission.refusal;
    ticket = submission.ticket;
    promise = submission.promise;
    reads = submission.reads;
    ended = es;
    started = ts;
    head = h;
    forecast = f;
  }

  answered_by : (es ts : Tickets) (h f : ℕ) → es ≡ tickets [] → ts ≡ tickets (q.first.started ++ q.second.started) → h ≡ head_ticket (hears q.first.head q.second.head)
      → f ≡ head_minute (hears q.first.head q.second.head) → joined_answer es ts h f ≡ answer (answered_both q.first q.second)
  answered_by es ts h f z t e m =
      let s = q.second_is in
      λ i. record {
        refusal = (s i).refusal;
        ticket = (s i).ticket;
        promise = (s i).promise;
        reads = (s i).reads;
        ended = z i;
        started = t i;
        head = e i;
        forecast = m i;
      }

  pub both_second : (es ts : Tickets) → es ≡ tickets [] → withdrawal.head ≡ 0 → ts ≡ tickets (q.first.started ++ q.second.started)
      → joined_answer es ts submission.head submission.forecast ≡ answer (answered_both q.first q.second)
  both_second es ts o z t =
      let e = hears_second (sym (ap (λ (a : Answer). a.head) q.first_is) ∙ z) in
      answered_by es ts submission.head submission.forecast o t (ap (λ (a : Answer). a.head) q.second_is ∙ ap head_ticket (sym e))
      (ap (λ (a : Answer). a.forecast) q.second_is ∙ ap head_minute (sym e))

  pub both_first : (es ts : Tickets) → es ≡ tickets [] → (withdrawal.head ≡ 0 → ⊥) → ts ≡ tickets (q.first.started ++ q.second.started)
      → joined_answer es ts withdrawal.head withdrawal.forecast ≡ answer (answered_both q.first q.second)
  both_first es ts o n t =
      let e = hears_first q.first.head q.second.head (λ z. n (ap (λ (a : Answer). a.head) q.first_is ∙ z)) in
      answered_by es ts withdrawal.head withdrawal.forecast o t (ap (λ (a : Answer). a.head) q.first_is ∙ ap head_ticket (sym e))
      (ap (λ (a : Answer). a.forecast) q.first_is ∙ ap head_minute (sym e))
