-- What is read of a mirror is what was mirrored.
-- Assumes nothing.
use Rattle.std.specs.Prelude.{◌≡◌, refl, List, [], ◌∷◌, map}
use Rattle.std.proofs.Common.{sym}
use Rattle.scheduler.specs.declared.Kind.{Kind}
use Rattle.scheduler.specs.declared.Kind.TheVariants.{Conservative, Easy}
use Rattle.scheduler.specs.declared.State.{State}
use Rattle.scheduler.specs.declared.State.TheVariants.{Unused, Waiting, Running, Cleanup}
use Rattle.scheduler.specs.declared.Tenant.{Tenant}
use Rattle.scheduler.specs.declared.Tenant.TheVariants.{Nobody, A, B}
use Rattle.scheduler.specs.Tenants.{tenant_of, letter_of}
use Rattle.scheduler.specs.declared.Job.{Job}
use Rattle.scheduler.specs.declared.Scheduler.{Scheduler}
use Rattle.scheduler.specs.Limits.{longest_estimate}
use Rattle.hingerota.specs.Mirror.{kind_number, state_number, mirror_job, mirror, kind_of, state_of, read_record, read}

kind_back : (k : Kind) → kind_of (kind_number k) ≡ k
kind_back Conservative = refl
kind_back Easy = refl

state_back : (s : State) → state_of (state_number s) ≡ s
state_back Unused = refl
state_back Waiting = refl
state_back Running = refl
state_back Cleanup = refl

tenant_back : (t : Tenant) → tenant_of (letter_of t) ≡ t
tenant_back Nobody = refl
tenant_back A = refl
tenant_back B = refl

pub job_back : (j : Job) → read_record (mirror_job j) ≡ j
job_back j = λ i. record {
  ticket = j.ticket;
  nodes = j.nodes;
  estimate = j.estimate;
  state = state_back j.state i;
  tenant = tenant_back j.tenant i;
  least = j.least;
  start = j.start;
  promise = j.promise;
  end = j.end;
  submitted = j.submitted;
  rank = j.rank;
  forecast = j.forecast;
}

jobs_back : (js : List Job) → map read_record (map mirror_job js) ≡ js
jobs_back [] = refl
jobs_back (j ∷ js) = λ i. job_back j i ∷ jobs_back js i

pub read_mirror : (d : Scheduler) → d.settings.longest ≡ longest_estimate → read (mirror d) ≡ d
unfolding read mirror
read_mirror d e = λ i. record {
  settings = record {
    kind = kind_back d.settings.kind i;
    nodes = d.settings.nodes;
    cleanup = d.settings.cleanup;
    quota_a = d.settings.quota_a;
    quota_b = d.settings.quota_b;
    longest = sym e i;
  };
  clock = d.clock;
  next = d.next;
  jobs = jobs_back d.jobs i;
}
