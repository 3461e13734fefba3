-- What the lists say, over the struct that has them.
-- Assumes nothing.
use Rattle.std.specs.Prelude.{ℕ, List}
use Rattle.scheduler.specs.declared.Settings.{Settings}
use Rattle.scheduler.specs.Model.{Model}
use Rattle.scheduler.specs.Answers.{Result}
use Rattle.column_parts.specs.declared.Told.{Told}
use Rattle.column_parts.specs.Held.{told_with}
use Rattle.conservative_columns.specs.ConservativeColumns.{Answered}
use Rattle.easy_columns.specs.EasyCalls as easy-calls
use Rattle.column_calls.specs.declared.Lists.{Lists}
use Rattle.column_calls.specs.CallColumns.{KindColumns, Unwritten, Lent, Gives}

-- nothing has been written yet
abbrev pub UnwrittenIn : Lists → Type 0
UnwrittenIn l =
    let c = l.columns in let q = l.queue in let o = l.occupancy in let p = l.promised in let f = l.profile in
    Unwritten c.tickets c.nodes c.states c.dues c.starts c.tenants c.estimates c.leasts p.holds p.promises q.asked q.submitted q.ranks q.forecasts
    o.held o.ends o.holders f.minutes f.free f.low f.high

-- the columns of a model, by its kind
abbrev pub KindIn : Model → Lists → Type 0
KindIn m l =
    let c = l.columns in let q = l.queue in let o = l.occupancy in let p = l.promised in let f = l.profile in
    KindColumns m c.tickets c.nodes c.states c.dues c.starts c.tenants c.estimates c.leasts p.holds p.promises q.asked q.submitted q.ranks q.forecasts
    o.held o.ends o.holders f.minutes f.free f.low f.high c.live f.count o.holding o.spare

-- the one premise of a call
abbrev pub LentIn : Settings → (clock next : ℕ) → Lists → Type 0
LentIn S clock next l =
    let c = l.columns in let q = l.queue in let o = l.occupancy in let p = l.promised in let f = l.profile in
    Lent S clock next c.tickets c.nodes c.states c.dues c.starts c.tenants c.estimates c.leasts p.holds p.promises q.asked q.submitted q.ranks q.forecasts
    o.held o.ends o.holders f.minutes f.free f.low f.high c.live f.count o.holding o.spare

-- the answer is the reply of a result, and the lists are the columns of its model
abbrev pub GivesIn : Result → Told → (ended started : List ℕ) → Lists → Type 0
GivesIn a r ended started l =
    let c = l.columns in let q = l.queue in let o = l.occupancy in let p = l.promised in let f = l.profile in
    Gives a (told_with r c.live f.count o.holding o.spare) ended started c.tickets c.nodes c.states c.dues c.starts c.tenants c.estimates c.leasts p.holds p.promises q.asked q.submitted q.ranks
    q.forecasts o.held o.ends o.holders f.minutes f.free f.low f.high

-- ## What a kind does not count

module _ {a : Result} {r : Told} {live : ℕ} {ended started tickets nodes states dues starts tenants estimates leasts : List ℕ} where
  pub answered_as : {count : ℕ} {holds promises ms fs lo hi : List ℕ} (holding spare : ℕ)
      → Answered a (told_with r live count 0 0) ended started tickets nodes states dues starts tenants estimates leasts holds promises ms fs lo hi
      → Answered a (told_with r live count holding spare) ended started tickets nodes states dues starts tenants estimates leasts
      holds promises ms fs lo hi
  answered_as holding spare g = record {
    reply = record {
      refusal_is = g.reply.refusal_is;
      ticket_is = g.reply.ticket_is;
      promise_is = g.reply.promise_is;
      head_is_lem = g.reply.head_is_lem;
      forecast_is = g.reply.forecast_is;
      ended_are = g.reply.ended_are;
      started_are = g.reply.started_are;
    };
    numbers = record { clock_is = g.numbers.clock_is; next_is = g.numbers.next_is };
    columns = g.columns;
  }

  pub gives_as : {asked submitted ranks forecasts held ends holders : List ℕ} {holding spare : ℕ} (points : ℕ)
      → easy-calls.Gives a (told_with r live 0 holding spare) ended started tickets nodes states dues starts tenants estimates leasts
      asked submitted ranks forecasts held ends holders
      → easy-calls.Gives a (told_with r live points holding spare) ended started tickets nodes states dues starts tenants estimates leasts
      asked submitted ranks forecasts held ends holders
  gives_as points g = record {
    tells = record {
      refusal_is = g.tells.refusal_is;
      ticket_is = g.tells.ticket_is;
      promise_is = g.tells.promise_is;
      head_is_lem = g.tells.head_is_lem;
      forecast_is = g.tells.forecast_is;
      ended_are = g.tells.ended_are;
      started_are = g.tells.started_are;
    };
    numbers = record { clock_is = g.numbers.clock_is; next_is = g.numbers.next_is };
    columns = g.columns;
  }
