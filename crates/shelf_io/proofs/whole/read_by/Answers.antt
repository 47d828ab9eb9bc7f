use Rattle.std.proofs.Common.{rules, ◌∙◌, refl, [], ◌++◌, take}
use Rattle.std.specs.Str.{chars}
use Rattle.shelf_io.proofs.Progress.{given_more, given_whole, given_most, read_step, front_whole, front_full, piece_at, IfSome-from_ForSome, missing_stays}
use Rattle.std.proofs.lemmas.Result.{err_from_is_err_and}
use Rattle.shelf_io.proofs.whole.read_by.Goals as goal
use Rattle.shelf_io.proofs.whole.read_by.Goals.{else-loop-bytes-test, then-loop-bytes-test+in-Ok+then-count-eq0}

pub loop-bytes-preserved : goal.loop-bytes-preserved
loop-bytes-preserved g c = record {
  same = search rules;
  bound = search rules;
  given = given_more c.loop-bytes.bytes.items c.extend_from_slice.new.self.items c.read_at.new.into _ c.len-in-loop-bytes-2.result c.in-Ok.count _
      c.loop-bytes.invariant.given (search rules) (search rules) (search rules) c.in-Ok.ensures.bound c.in-Ok.ensures.logged c.in_ok-extend_from_slice.ensures.items;
  front = λ all e.
      let piece = piece_at (g.S.Shelf.held c.args.shelf.now) (g.S.Shelf.held c.loop-bytes.shelf) (chars c.args.name.now) all
      c.len-in-loop-bytes-2.result c.in-Ok.count c.read_at.new.into c.loop-bytes.invariant.same e c.in-Ok.ensures.bytes in
      read_step all c.loop-bytes.bytes.items c.extend_from_slice.new.self.items c.read_at.new.into _ c.len-in-loop-bytes-2.result c.in-Ok.count
      (c.loop-bytes.invariant.front all e) piece (search rules) c.in-Ok.ensures.bound c.in_ok-extend_from_slice.ensures.items;
  missing = λ m. let failed = c.in-Ok.ensures.missing (missing_stays _ _ _ c.loop-bytes.invariant.same m) in absurd (cc);
  calm = search rules;
  steady = λ other h. c.in-Ok.ensures.steady other (c.loop-bytes.invariant.steady other h);
}

pub returns-clause-bytes : goal.returns-clause-bytes
returns-clause-bytes g c = elim c.loop-bytes-test.branch [
  | else-loop-bytes-test w ↦ IfSome-from_ForSome _ _ (λ all e.
      c.from_vec.ensures ∙ front_full all c.loop-bytes.bytes.items c.args.most (c.loop-bytes.invariant.front all e) (search rules))
  | then-loop-bytes-test+in-Ok+then-count-eq0 w ↦ IfSome-from_ForSome _ _ (λ all e.
      let piece = piece_at (g.S.Shelf.held c.args.shelf.now) (g.S.Shelf.held c.loop-bytes.shelf) (chars c.args.name.now) all
      w.len-in-loop-bytes-2.result w.in-Ok.count w.read_at.new.into c.loop-bytes.invariant.same e w.in-Ok.ensures.bytes in
      c.from_vec.ensures ∙ front_whole all c.loop-bytes.bytes.items c.args.most (c.loop-bytes.invariant.front all e)
      (let ended = piece.ended (search rules) w.if-count-eq0.true in search rules) c.loop-bytes.invariant.bound)
]

pub returns-clause-logged : goal.returns-clause-logged
returns-clause-logged g c = elim c.loop-bytes-test.branch [
  | else-loop-bytes-test w ↦ rw (c.from_vec.ensures, w.shelf-is) (given_most c.loop-bytes.bytes.items c.loop-bytes.invariant.given (search rules))
  | then-loop-bytes-test+in-Ok+then-count-eq0 w ↦ rw (c.from_vec.ensures, w.shelf-is) (given_whole c.loop-bytes.bytes.items w.read_at.new.into _ w.in-Ok.count _ (search rules)
      c.loop-bytes.invariant.given (search rules) (search rules) w.if-count-eq0.true w.in-Ok.ensures.logged)
]

pub returns-in_err-extend_from_slice-clause-logged : goal.returns-in_err-extend_from_slice-clause-logged
returns-in_err-extend_from_slice-clause-logged g c =
    let p = err_from_is_err_and c.from_residual.result c.from_residual.ensures.1 in
    rw (p.1, p.2) (
      c.loop-bytes.bytes.items ++ take c.in-Ok.count (c.read_at.new.into ++ []),
      given_more c.loop-bytes.bytes.items _ c.read_at.new.into [] c.len-in-loop-bytes-2.result c.in-Ok.count _
          c.loop-bytes.invariant.given (search rules) (search rules) (search rules) c.in-Ok.ensures.bound c.in-Ok.ensures.logged refl,
    )
