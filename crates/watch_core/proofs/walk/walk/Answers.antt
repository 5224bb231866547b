use Rattle.std.proofs.Common.{rules}
use Rattle.watch_core.specs.declared.module.Visited.{Visited}
use Rattle.watch_core.specs.declared.faults.BuildFault.{BuildFault}
use Rattle.std.proofs.Common.{Result}
use Rattle.std.specs.Map.{keys_of}
use Rattle.watch_core.proofs.Seeing.{look_failed, then_sights}
use Rattle.watch_core.proofs.WalkEnds.{wanted_is, looked, refuses, overflows, ends}
use Rattle.watch_core.proofs.WalkSteps.{IsTaken, follows_on, asks_on, walks_on}
use Rattle.watch_core.proofs.walk.walk.Goals as goal

pub returns-in-Err-clause-value : goal.returns-in-Err-clause-value
returns-in-Err-clause-value g c = λ t h entry.
    let walker = c.modules.walker in
    let path = c.path_of-path.result.now in
    let keys = keys_of c.modules.sights in
    let followed = c.modules.invariant.followed t h entry in
    let wanted = wanted_is c.modules.walker.builder c.in-Some.number c.path_of-path.result.now c.in-Some.ensures.wanted.0 c.path_of-path.ensures in
    refuses t c.args.entry walker c.modules.invariant.walking followed c.in-Some.ensures.labels c.in-Some.ensures.order path c.in-Err.fault (keys_of c.args.sights.now) keys (keys_of c.visit.new.sights) wanted (c.modules.invariant.keys t h entry)
    (looked t walker path keys (keys_of c.visit.new.sights) _ _ wanted followed c.in-Err.is (c.in_ok-visited.ensures.value t (c.modules.invariant.keeps.sees t h)))

pub returns-in-Err-TooMany-take-clause-value : goal.returns-in-Err-TooMany-take-clause-value
returns-in-Err-TooMany-take-clause-value g c = λ t h entry.
    let walker = c.modules.walker in
    let path = c.path_of-path.result.now in
    let keys = keys_of c.modules.sights in
    let followed = c.modules.invariant.followed t h entry in
    let wanted = wanted_is c.modules.walker.builder c.in-Some.number c.path_of-path.result.now c.in-Some.ensures.wanted.0 c.path_of-path.ensures in
    overflows t c.args.entry walker c.modules.invariant.walking followed c.in-Some.ensures.labels c.in-Some.ensures.order path c.in-Ok-2.visited (keys_of c.args.sights.now) keys (keys_of c.visit.new.sights) wanted (c.modules.invariant.keys t h entry)
    (looked t walker path keys (keys_of c.visit.new.sights) _ _ wanted followed c.in-Ok-2.is (c.in_ok-visited.ensures.value t (c.modules.invariant.keeps.sees t h)))
    (c.take.ensures.too_many (search rules))

pub modules-preserved : goal.modules-preserved
modules-preserved g c =
    let walker = c.modules.walker in
    let new = c.take.new.self in
    let visited = c.in-Ok-2.visited in
    let path = c.path_of-path.result.now in
    let keys = keys_of c.modules.sights in
    let seen = keys_of c.visit.new.sights in
    let wanted = wanted_is c.modules.walker.builder c.in-Some.number c.path_of-path.result.now c.in-Some.ensures.wanted.0 c.path_of-path.ensures in
    let taken : IsTaken c.modules.walker c.take.new.self c.in-Ok-2.visited = record {
      known = c.in-Ok-take.ensures.known;
      row = c.in-Ok-take.ensures.row;
      entries = c.in-Ok-take.ensures.entries;
      body = c.in-Ok-take.ensures.body;
      source_bytes = c.in-Ok-take.ensures.source_bytes;
      few = c.in-Ok-take.ensures.few;
    } in
    record {
      keeps = then_sights _ _ _ _ _ _ c.modules.invariant.keeps c.in_ok-visited.ensures.looks;
      walking = walks_on c.args.entry walker new visited taken (search rules) (search rules) (search rules) c.modules.invariant.walking;
      followed = λ t h entry.
          let followed = c.modules.invariant.followed t h entry in
          follows_on t walker new path visited keys seen wanted taken (looked t walker path keys seen _ _ wanted followed c.in-Ok-2.is (c.in_ok-visited.ensures.value t (c.modules.invariant.keeps.sees t h))) followed;
      keys = λ t h entry.
          let followed = c.modules.invariant.followed t h entry in
          asks_on t walker new path visited keys seen wanted taken (looked t walker path keys seen _ _ wanted followed c.in-Ok-2.is (c.in_ok-visited.ensures.value t (c.modules.invariant.keeps.sees t h)))
          (keys_of c.args.sights.now) (c.modules.invariant.keys t h entry);
    }

pub returns-clause-value : goal.returns-clause-value
returns-clause-value g c = λ t h entry.
    ends t c.args.entry c.modules.walker c.modules.invariant.walking (c.modules.invariant.followed t h entry) c.next_wanted.ensures.labels c.next_wanted.ensures.order
    c.finish.result c.from_vec.result (keys_of c.args.sights.now) (keys_of c.modules.sights) c.finish.ensures.rows c.finish.ensures.entries c.finish.ensures.labels c.from_vec.ensures (c.modules.invariant.keys t h entry)

pub returns-in_err-visited-clause-looks : goal.returns-in_err-visited-clause-looks
returns-in_err-visited-clause-looks g c = look_failed (Result Visited BuildFault) _ _ c.from_residual.result _ _ _ _ _ _ _ c.modules.invariant.keeps c.from_residual.ensures.1 c.in_err-visited.ensures.looks

pub returns-in-Err-clause-looks : goal.returns-in-Err-clause-looks
returns-in-Err-clause-looks g c = (then_sights _ _ _ _ _ _ c.modules.invariant.keeps c.in_ok-visited.ensures.looks)

pub returns-in-Err-TooMany-take-clause-looks : goal.returns-in-Err-TooMany-take-clause-looks
returns-in-Err-TooMany-take-clause-looks g c = (then_sights _ _ _ _ _ _ c.modules.invariant.keeps c.in_ok-visited.ensures.looks)

pub returns-in-Err-NoMemory-take-clause-looks : goal.returns-in-Err-NoMemory-take-clause-looks
returns-in-Err-NoMemory-take-clause-looks g c = (then_sights _ _ _ _ _ _ c.modules.invariant.keeps c.in_ok-visited.ensures.looks).files.files
