use Rattle.std.proofs.Common.{◌∙◌, ◌<◌, List, get_or, sym, ap, subst, arith}
use Rattle.raft_vote.specs.declared.log.LogEntry.{LogEntry}
use Rattle.contract_types.specs.declared.change.Change.{Change}
use Rattle.table_log.specs.Fitting.{changes_of}
use Rattle.table_log.specs.Logs.{LogState, result_at}
use Rattle.table_log.proofs.Keeping.{followed_fits, followed_act, given_is}
use Rattle.table_log.proofs.log.TableLog.act.Goals as goal

pub apply-requires : goal.apply-requires
apply-requires c =
    let behind : c.self.inside.acted < c.self.inside.raft.view = subst (λ (s : LogState). s.acted < s.raft.view) (sym c.self.view_is) c.requires in
    followed_fits c.self.inside.me c.self.inside.config c.self.inside.raft c.self.inside.acted c.self.inside.table c.self.invariant
    c.index-log-self.result (omega (arith, behind)) c.in_ok-change.change
    (c.in_ok-change.ensures ∙ ap (λ (xs : List (LogEntry Change)). (get_or xs c.self.inside.acted c.index-log-self.result).change) c.log.ensures)

pub invariant_of-self-2 : goal.invariant_of-self-2
invariant_of-self-2 c =
    let behind : c.self.inside.acted < c.self.inside.raft.view = subst (λ (s : LogState). s.acted < s.raft.view) (sym c.self.view_is) c.requires in
    followed_act c.self.inside.me c.self.inside.config c.self.inside.raft c.self.inside.acted c.self.inside.table c.self.invariant
    c.index-log-self.result (omega (arith, behind)) c.in_ok-change.change
    (c.in_ok-change.ensures ∙ ap (λ (xs : List (LogEntry Change)). (get_or xs c.self.inside.acted c.index-log-self.result).change) c.log.ensures)
    (record { table = c.apply.new.state; applied = c.in_ok-applied.applied }) c.in_ok-applied.ensures.ok behind

pub returns-clause-result_is : goal.returns-clause-result_is
returns-clause-result_is c =
    let behind : c.self.inside.acted < c.self.inside.raft.view = subst (λ (s : LogState). s.acted < s.raft.view) (sym c.self.view_is) c.requires in
    given_is c.self.inside.me c.self.inside.config c.self.inside.raft c.self.inside.acted c.self.inside.table c.self.invariant
    c.index-log-self.result (omega (arith, behind)) c.in_ok-change.change
    (c.in_ok-change.ensures ∙ ap (λ (xs : List (LogEntry Change)). (get_or xs c.self.inside.acted c.index-log-self.result).change) c.log.ensures)
    (record { table = c.apply.new.state; applied = c.in_ok-applied.applied }) c.in_ok-applied.ensures.ok
    ∙ ap (λ (s : LogState). result_at s.config (changes_of s.raft.log) s.acted) c.self.view_is
