-- `write_search`: the save is as long as its records, and a record more is the next part of it.
use mathlib.Core.Path.{◌≡◌, refl, ap, ◌∙◌}
use Prim.Native.Nat.{suc, ◌+◌, ◌-◌, ◌*◌}
use native.Mathlib.Omega.{arith}
use native.Mathlib.Numerals.{add-one}
use lib.ListN.{length}
use lib.Seq.{paste}
use borrow.Author.Tests.{lt-ltb, le-ltb}
use Rattle.std.proofs.lemmas.Slice.{put_mid-paste}
use Rattle.rules.specs.Limits.{record_bytes}
use Rattle.rules.specs.Refusals.{check17}
use Rattle.rules.specs.Saved.{bytes}
use Rattle.rules.specs.Told.{gives}
use Rattle.rules.proofs.Records.{bytes_counted}
use Rattle.records.proofs.Front.{front_record, front_whole}
use Rattle.records.proofs.write.write_search.Goals as goal

pub returns-then-out-length : goal.returns-then-out-length
unfolding check17
returns-then-out-length c =
    let n = bytes_counted c.args.s c.requires.few in
    let h = lt-ltb (length c.args.out.now) (length (bytes c.args.s)) (omega arith) in
    rw h record {
      result_value = refl;
      out_after = refl;
    }

pub loop-i-preserved : goal.loop-i-preserved
loop-i-preserved c =
    let l = c.loop-i in
    let n = bytes_counted c.args.s c.requires.few in
    let e : record_bytes * (l.i + 1) ≡ record_bytes * suc l.i = ap (λ m. record_bytes * m) (add-one l.i) in
    let w = put_mid-paste (record_bytes * l.i) (record_bytes * l.i + record_bytes - record_bytes * l.i) l.out c.copy_from_slice.new.self c.record_at.result.bytes record_bytes c.copy_from_slice.ensures.after (omega arith) (omega arith) in
    (omega arith, rw e (front_record (bytes c.args.s) c.args.out.now l.i (omega arith) c.record_at.ensures (w ∙ ap (λ out. paste out (record_bytes * l.i) c.record_at.result.bytes record_bytes) l.invariant.1)))

pub returns : goal.returns
unfolding check17
returns c =
    let l = c.loop-i in
    let n = bytes_counted c.args.s c.requires.few in
    let h = le-ltb (length c.args.out.now) (length (bytes c.args.s)) (omega arith) in
    let m : record_bytes * (c.from.result + c.from-2.result) ≡ length (bytes c.args.s) = omega arith in
    rw h record {
      result_value = ap gives m;
      out_after = l.invariant.1 ∙ front_whole (bytes c.args.s) c.args.out.now (record_bytes * l.i) (omega arith);
    }
