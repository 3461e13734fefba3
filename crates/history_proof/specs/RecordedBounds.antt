-- The bound that calls and answers give a waiting job (document 01: "the clock at intake + r × 10,080") is the one that its record keeps (document 02,
-- No. 11: "Loose records now keep intake minute, .. r at intake").
-- Assumes nothing.
use Rattle.std.specs.Prelude.{◌≡◌, refl, true, List, [], ◌∷◌, ◌⊎◌, ℕ}
use Rattle.std.proofs.Common.{sym, ap, subst, ◌∙◌, inl, inr, arith}
use Rattle.std.proofs.Math.Option.{Option, some}
use Rattle.lists.specs.Lists.{keep, elem, In, in_map, in_keep, keep_in}
use Rattle.scheduler.specs.declared.Kind.{Kind}
use Rattle.scheduler.specs.declared.Job.{Job}
use Rattle.scheduler.specs.declared.Settings.{Settings}
use Rattle.scheduler.specs.Jobs as jobs
use Rattle.scheduler.specs.Settings.{cleanup, unit, bound_of}
use Rattle.scheduler.specs.Model.{Model}
use Rattle.jobs.specs.Order.{asc_one, elem_job}
use Rattle.history.specs.Calls.{Call, Rules, after, events}
use Rattle.history.specs.News.{Newcomer}
use Rattle.history.specs.Book.{Entry, Book, is_waiting, entry, entry_ticket, queued, marked, hearing, enter, enter_all}
use Rattle.history.specs.Beginning.{beginning, entries_of}
use Rattle.history_proof.specs.Seen.{in_elem}
use Rattle.history_proof.specs.Obligations.{bound_at, Comes, said, Lawful, Seeded, Ticketed, Recorded}
use Rattle.history_proof.specs.Proof.{Agrees, InStep, Came, old, new, each, bound_is, queue_before, waited, agrees_call, r, c', ys}
use Rattle.history_proof.specs.Beginnings as beginnings
use Rattle.history_proof.specs.Beginnings.{beginning_agrees}

-- a job that waits by the book has in it the bound that its record has
abbrev pub AsRecorded : Model → Book → Type 0
AsRecorded m b =
    (x : Entry) (k : Job) → In x b.entries → is_waiting x ≡ true → In k m.jobs → x.ticket ≡ k.ticket → x.bound ≡ some (bound_of m.settings k)

module _ {k : Kind} {R : Rules} {Valid : Model → Type 0} {OnCourse : Model → ℕ → ℕ → Type 0} (L : Lawful k R Valid OnCourse)
    (T : Ticketed R Valid OnCourse) (K : Recorded R Valid) where
  module _ (m : Model) (c : Call) (v : Valid m) (b : Book) (a : Agrees k OnCourse m b) (g : AsRecorded m b) (u p : ℕ) (u-is : u ≡ unit m.settings)
      (p-is : p ≡ cleanup m.settings) where
    abbrev S : Settings
    S = m.settings

    -- a newcomer's ticket is not that of a job that is there
    unlike : (o : Newcomer) (j : Job) → In o (said R m c).came → In j m.jobs → o.ticket ≡ j.ticket → ⊥
    unlike o j i x e = omega (arith, T.gives m c o v i, (T.sound m v).below j x)

    -- who waits by the book is there
    there_is : (x : Entry) → In x b.entries → is_waiting x ≡ true → (j : Job) × In j m.jobs × (j.ticket ≡ x.ticket)
    there_is x i w =
        let q : elem x.ticket (queued b.entries) ≡ true = in_elem (queued b.entries) (in_map entry_ticket (in_keep is_waiting i w)) in
        let j = elem_job x.ticket (keep jobs.is_waiting m.jobs) (ap (elem x.ticket) (sym (queue_before L m c v b a u p u-is p-is)) ∙ q) in
        (j.0, (keep_in jobs.is_waiting m.jobs j.1).0, j.2)

    came : (x : Entry) → Came L m c v b a u p u-is p-is x → is_waiting x ≡ true → (z : Job) → In z (R m c).model.jobs → x.ticket ≡ z.ticket
        → x.bound ≡ some (bound_of S z)
    came x (old y i) w z j e = go (K.records m c z v j)
      where
        go : ((n : Job) × In n m.jobs × (n.ticket ≡ z.ticket) × (bound_of S z ≡ bound_of S n)) ⊎ (Comes (said R m c) z.ticket × (bound_of S z ≡ bound_at m))
            → x.bound ≡ some (bound_of S z)
        go (inl (n, q, t, d)) = g x n i w q (e ∙ sym t) ∙ ap some (sym d)
        go (inr ((o, q, t), d)) = let h = there_is x i w in absurd (unlike o h.0 q h.1 (t ∙ sym e ∙ sym h.2))
    came x (new o i) w z j e = go (K.records m c z v j)
      where
        go : ((n : Job) × In n m.jobs × (n.ticket ≡ z.ticket) × (bound_of S z ≡ bound_of S n)) ⊎ (Comes (said R m c) z.ticket × (bound_of S z ≡ bound_at m))
            → (entry u b o).bound ≡ some (bound_of S z)
        go (inl (n, q, t, d)) = absurd (unlike o n i q (e ∙ sym t))
        go (inr (q, d)) = ap some (sym (bound_is L m c v b a u p u-is p-is) ∙ sym d)

    -- after a call too
    call_recorded : AsRecorded (R m c).model (enter u p b (said R m c))
    call_recorded x z i w j e =
        each L m c v b a u p u-is p-is
        (λ (x : Entry). is_waiting x ≡ true → x.ticket ≡ z.ticket → x.bound ≡ some (bound_of (R m c).model.settings z))
        (λ y o t w e. from y o w e)
        (λ y o q h n w e. from y o w e) x i w e
      where
        from : (y : Entry) → Came L m c v b a u p u-is p-is y → is_waiting (marked p (c' L m c v b a u p u-is p-is) (r L m c v b a u p u-is p-is) y) ≡ true
            → y.ticket ≡ z.ticket → y.bound ≡ some (bound_of (R m c).model.settings z)
        from y o w e =
            came y o (waited p (c' L m c v b a u p u-is p-is) (r L m c v b a u p u-is p-is) y.ticket y.fate w) z j e ∙ ap (λ (Q : Settings). some (bound_of Q z)) (sym (L.settings m c v))

  -- after every list of calls
  list_recorded : (u p : ℕ) (m : Model) (b : Book) (cs : List Call) → InStep L u p m b → AsRecorded m b
      → AsRecorded (after R m cs) (enter_all u p b (events R m cs))
  list_recorded u p m b [] f g = g
  list_recorded u p m b (c ∷ cs) f g =
      list_recorded u p (R m c).model (enter u p b (said R m c)) cs
      (record {
        valid = L.valid m c f.valid;
        agrees = agrees_call L m c f.valid b f.agrees u p f.unit_is f.cleanup_is;
        unit_is = f.unit_is ∙ ap unit (sym (L.settings m c f.valid));
        cleanup_is = f.cleanup_is ∙ ap cleanup (sym (L.settings m c f.valid));
      })
      (call_recorded m c f.valid b f.agrees g u p f.unit_is f.cleanup_is)

  -- from any valid model, whose jobs count as it has them
  pub bounds_recorded : Seeded k Valid OnCourse → (m : Model) (cs : List Call) → Valid m
      → AsRecorded (after R m cs) (enter_all (unit m.settings) (cleanup m.settings) (beginning m) (events R m cs))
  bounds_recorded G m cs v =
      list_recorded (unit m.settings) (cleanup m.settings) m (beginning m) cs
      (record { valid = v; agrees = beginning_agrees L G m v; unit_is = refl; cleanup_is = refl }) first
    where
      first : AsRecorded m (beginning m)
      first x k i w j e =
          beginnings.each L G m v (λ (y : Entry). is_waiting y ≡ true → y.ticket ≡ k.ticket → y.bound ≡ some (bound_of m.settings k))
          (λ n q w e.
          let z : n ≡ k = asc_one 1 m.jobs n k (T.sound m v).asc q j e in
          rw (sym (beginnings.waits_is L G m v n q) ∙ w) (ap (λ (y : Job). some (bound_of m.settings y)) z))
          x i w e
