-- The walk over all rounds, turn by turn: within a round the boards are the fold over the positions passed, and between the rounds the
-- times are a table. A turn more keeps that, and when no turn is left the rounds are over.
use mathlib.Core.Path.{◌≡◌, refl, sym, ap, ◌∙◌}
use mathlib.Core.List.{List}
use Prim.Native.Nat.{ℕ, ◌+◌, ◌-◌, ◌*◌, ◌≤◌, ◌<◌}
use native.Mathlib.Omega.{arith}
use native.Mathlib.Nat.{mul-le-mul_right, mul-pos}
use native.Mathlib.Decide.{dec_lt}
use lib.ListN.{length, get_or, take, drop, length-drop}
use lib.Seq.{length-take-le, get_or-take, get_or-drop}
use Rattle.edges.specs.declared.Record.{Record}
use Rattle.layout.specs.Records.{blank, listed}
use Rattle.turns.specs.declared.jobs.Job.{Job}
use Rattle.turns.specs.declared.Turn.{Turn}
use Rattle.edges.specs.Edges.{site_of}
use Rattle.turns.specs.Rounds.{Named, board, after, passed, walked, round_of, turn_of, Able, Parts, Next, on, still, again, Ran}
use Rattle.turns.proofs.Folds.{pass_part, able, boards_same}
use Rattle.turns.proofs.Places.{AllIn, nodes_small, sited, walked_in, round_none, round_more}
use Rattle.turns.proofs.Tables.{Running, running_none, running_boards, running_more, ran_still, ran_all}

-- the part of the list that a turn walks
abbrev pub part_of : List Record → Turn → List Record
part_of l t = take (t.last - t.first) (drop t.first l)

-- The turn's part of the list is in it, each of its records can be stepped through, and position and round are within their limits.
pub record Ready (l : List Record) (job : Job) (t : Turn) (old new row : List ℕ) : Type 0 where
  pub part_in : t.first ≤ t.last
  pub part_below : t.last ≤ length l
  pub able : (i : ℕ) → i < length (part_of l t) → Able (listed (part_of l t) i) t.at old new row
  pub here : t.position < job.sheet.positions
  pub round : t.round < 192

module _ (l : List Record) (job : Job) (parts : Parts l job.sheet.n job.start job.sheet.schedule.now job.sheet.positions) (room : length l ≡ 4608) where
  abbrev N : ℕ
  N = job.sheet.positions * job.sheet.n

  abbrev U : ℕ
  U = job.sheet.positions

  -- the arcs of the first g positions, and of all
  abbrev W : ℕ → List Named
  W g = walked l job.start job.sheet.schedule.now job.sheet.n job.sheet.positions job.time.top job.time.bottom g

  abbrev A : List Named
  A = round_of l job

  inside : AllIn N A
  inside = walked_in l job.start job.sheet.schedule.now job.sheet.n job.sheet.positions job.time.top job.time.bottom job.posed.limits job.posed.q_small parts job.sheet.positions (omega arith)

  few : N ≤ 192
  few = nodes_small job.sheet.n job.sheet.positions job.time.top job.posed.limits

  -- the turn t, with `began` the row when its round began
  pub record Walking (t : Turn) (old new row : List ℕ) : Type 0 where
    began : List ℕ
    is : t ≡ turn_of t.left t.round t.position t.node job
    here : t.position < U
    before : t.round < N
    turns : t.left + t.round * U + t.position ≡ N * U
    long : length began ≡ 192
    running : Running A N t.round t.node old began
    done : board new row ≡ after old (W t.position) (board old began)

  pub record State (t : Turn) (old new row : List ℕ) : Type 0 where
    pub old_long : length old ≡ 192
    pub new_long : length new ≡ 192
    pub row_long : length row ≡ 192
    walking : 0 < t.left → Walking t old new row
    pub over : t.left ≡ 0 → Ran A N t.round t.node new row

  pub state_none : (t : Turn) (old new row : List ℕ) → t ≡ turn_of (N * U) 0 0 0 job → new ≡ old → ((v : ℕ) → get_or old v 0 ≡ 0) → length old ≡ 192 → length row ≡ 192 → State t old new row
  state_none t old new row e same zeros lo lr =
      let some : 0 < N = mul-pos job.posed.limits.some_positions job.posed.limits.some_events in
      let turns : 0 < N * U = mul-pos some job.posed.limits.some_positions in
      rw (e, same) (record {
        old_long = lo;
        new_long = lo;
        row_long = lr;
        walking = λ h. record {
          began = row;
          is = refl;
          here = job.posed.limits.some_positions;
          before = some;
          turns = omega arith;
          long = lr;
          running = running_none A N 0 old row zeros;
          done = round_none l job.start job.sheet.schedule.now job.sheet.n job.sheet.positions job.time.top job.time.bottom old (board old row);
        };
        over = λ h. absurd (omega arith);
      })

  module _ (t : Turn) (old new row : List ℕ) (s : State t old new row) (more : 0 < t.left) where
    w : Walking t old new row
    w = s.walking more

    at_is : t.at ≡ site_of t.position job.sheet.n job.sheet.positions job.time.top job.time.bottom
    unfolding w
    at_is = ap (λ (x : Turn). x.at) w.is

    first_is : t.first ≡ get_or job.start (get_or job.sheet.schedule.now t.position 0) 0
    unfolding w
    first_is = ap (λ (x : Turn). x.first) w.is

    last_is : t.last ≡ get_or job.start (get_or job.sheet.schedule.now t.position 0 + 1) 0
    unfolding w
    last_is = ap (λ (x : Turn). x.last) w.is

    part_in : t.first ≤ t.last
    part_in = omega (arith, first_is, last_is, parts.rising t.position w.here)

    part_below : t.last ≤ length l
    part_below = omega (arith, last_is, (parts.fine t.position w.here).few, room)

    part_long : length (part_of l t) ≡ t.last - t.first
    part_long = length-take-le (t.last - t.first) (drop t.first l) (omega (arith, part_in, part_below, length-drop t.first l))

    part_at : (i : ℕ) → i < t.last - t.first → listed (part_of l t) i ≡ listed l (t.first + i)
    part_at i h = get_or-take (t.last - t.first) (drop t.first l) i blank h ∙ get_or-drop t.first l i blank

    -- THEOREM: the turn is what the pass, and the turn after it, rest on
    pub ready : Ready l job t old new row
    ready =
        let b = running_boards A N t.round t.node old w.began inside few w.before s.old_long w.long w.running in
        record {
          part_in = part_in;
          part_below = part_below;
          able = λ i h.
              let k : i < t.last - t.first = omega (arith, part_long) in
              rw (part_at i k) (able l job.sheet.n t.last N t.at (t.first + i) old new row (rw last_is (parts.fine t.position w.here))
              (rw at_is (sited t.position job.sheet.n job.sheet.positions job.time.top job.time.bottom job.posed.limits job.posed.q_small w.here))
              (boards_same old old w.began new row N b (s.new_long ∙ sym s.old_long) (s.row_long ∙ sym w.long)) (omega arith));
          here = w.here;
          round = omega (arith, w.before, few);
        }

    -- the pass is done
    module _ (new' row' : List ℕ) (passing : board new' row' ≡ after old (passed t.at (part_of l t)) (board new row)) (ln : length new' ≡ 192) (lr : length row' ≡ 192) where
      done_more : board new' row' ≡ after old (W (t.position + 1)) (board old w.began)
      done_more =
          round_more l job.start job.sheet.schedule.now job.sheet.n job.sheet.positions job.time.top job.time.bottom old (board old w.began) t.position (board new row) (board new' row') w.done
          (rw (← at_is, ← first_is, ← last_is) (passing ∙ ap (λ (x : List Named). after old x (board new row)) (pass_part t.at l (t.last - t.first) t.first (omega (arith, part_in, part_below)))))

      -- THEOREM: the turn after it stands as this one did, and fewer are left
      pub state_more : (t' : Turn) (old' : List ℕ) → Next t job old new' t' old' → State t' old' new' row' × (t'.left < t.left)
      state_more t' old' (on h e o) = (
        rw (e, o) (record {
          old_long = s.old_long;
          new_long = ln;
          row_long = lr;
          walking = λ k. record {
            began = w.began;
            is = refl;
            here = h;
            before = w.before;
            turns = omega (arith, w.turns);
            long = w.long;
            running = w.running;
            done = done_more;
          };
          over = λ k. absurd (omega (arith, w.turns, mul-le-mul_right U w.before));
        }),
        rw e (omega arith),
      )
      state_more t' old' (still h d e o) =
          let last : t.position + 1 ≡ U = omega (arith, w.here) in (
            rw (e, o) (record {
              old_long = s.old_long;
              new_long = ln;
              row_long = lr;
              walking = λ k. absurd (omega arith);
              over = λ k. ran_still A N t.round t.node old w.began new' row' inside few w.before s.old_long w.long w.running (rw last at done_more) N d refl;
            }),
            rw e more,
          )
      state_more t' old' (again h d b f e o) =
          let last : t.position + 1 ≡ U = omega (arith, w.here) in
          let run = running_more A N t.round t.node old w.began new' row' inside few w.before s.old_long w.long w.running (rw last at done_more) d f (λ x. omega arith) in (
            rw (e, o) (record {
              old_long = ln;
              new_long = ln;
              row_long = lr;
              walking = λ k. record {
                began = row';
                is = refl;
                here = job.posed.limits.some_positions;
                before = elim (dec_lt (t.round + 1) N) [ yes x ↦ x | no x ↦ absurd (omega (arith, w.turns, mul-le-mul_right {m = N} {n = t.round + 1} U (omega arith))) ];
                turns = omega (arith, w.turns);
                long = lr;
                running = run;
                done = round_none l job.start job.sheet.schedule.now job.sheet.n job.sheet.positions job.time.top job.time.bottom new' (board new' row');
              };
              over = λ k. ran_all A N (t.round + 1) d new' row' (full k) (omega (arith, w.before)) run;
            }),
            rw e (omega arith),
          )
        where
          full : t.left - 1 ≡ 0 → t.round + 1 ≡ N
          full k = elim (dec_lt (t.round + 1) N) [
            | yes x ↦ absurd (omega (arith, w.turns, w.here, job.posed.limits.some_positions, mul-le-mul_right {m = t.round + 2} {n = N} U (omega arith)))
            | no x ↦ omega (arith, w.before)
          ]
