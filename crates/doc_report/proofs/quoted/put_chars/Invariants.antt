use Rattle.std.proofs.Common.{◌≡◌, ◌++◌, ◌≤◌, length, take}
use Rattle.std.specs.Prelude.{chars, flat_map}
use Rattle.doc_report.specs.Quoted.{char_text}
use Rattle.doc_report.proofs.quoted.put_chars.Given as goal

abbrev pub invariant-loop-c : goal.invariant-loop-c
invariant-loop-c l = record {
  counted : l.shown ≡ length l.yielded;
  few : l.shown ≤ 64;
  put : l.out.items ≡ l.initial.out.items ++ flat_map char_text (take l.shown (chars l.text));
}
