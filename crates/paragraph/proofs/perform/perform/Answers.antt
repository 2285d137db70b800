use Rattle.std.proofs.Common.{◌≡◌, ◌++◌, [], length, map, min, take, refl, sym, ap, ◌∙◌, subst, arith}
use Rattle.std.proofs.lemmas.List.{append-nil, length-map, length-take, take_all}
use Rattle.paragraph.specs.Hand.{slips_in}
use Rattle.paragraph.specs.Law.{made}
use Rattle.paragraph.specs.Performs.{Performs, Run, begun, desk, given_by, in_front, joined, nothing, on, start, still_blank, waives}
use Rattle.paragraph.specs.SaidBy.{all_asked, asked, laid_over, lent, said_by}
use Rattle.paragraph.specs.Whole.{subject_in}
use Rattle.paragraph.proofs.Listed.{all-written, as-many-as, one-more, one-written, same-behind}
use Rattle.paragraph.proofs.Performing.{join, lawful}
use Rattle.paragraph.proofs.Settling.{as-many, empty-behind, settled}
use Rattle.paragraph.proofs.perform.perform.Goals as goal

pub loop-at-init : goal.loop-at-init
loop-at-init g c = λ advances. (
  [],
  nothing,
  begun (λ i. record { subject = still_blank (c.new.ensures.number i); hand = c.args.hand.now; used = c.places_used-used.ensures.used i; memory = lent c.args.memory.now; own = lent c.args.own.now }),
  refl,
  ((omega arith, sym (take_all (length c.args.copies.now.run.items) c.args.copies.now.run.items (omega arith))), (omega arith, sym (take_all (length c.args.copies.now.marks.items) c.args.copies.now.marks.items (omega arith)))),
)

pub make-answer-requires : goal.make-answer-requires
make-answer-requires g c =
    let done = c.loop-at.invariant (λ s n. 0) in
    record { empty = empty-behind c.args.number c.args.hand.now (lent c.args.memory.now) (lent c.args.own.now) done.2 }

pub loop-at-preserved : goal.loop-at-preserved
loop-at-preserved g c = λ advances.
    let before = c.loop-at.invariant advances in
    let does = c.make-answer.ensures advances in
    let s = subject_in g.S.FontSource.means advances c.make-answer.result.1 in
    let a = said_by c.make-answer.result.0 in
    let i = c.loop-at.at in
    let inside = simp length-take at c.loop-at-test.true in (
      in_front does.0 before.0,
      joined before.1 (given_by a (desk s c.make-answer.new.hand c.make-answer.new.used (lent c.make-answer.new.memory) (lent c.make-answer.new.own))),
      on (asked g.S.FontSource.means advances c.call-item.result) a does.0 before.2 does.1 (one-more (asked g.S.FontSource.means advances) c.args.calls.now c.min-made.result i c.call-item.result c.call-item.is (omega arith) (omega arith))
          (one-written said_by c.loop-at.answers i c.make-answer.result.0 (omega arith)) refl refl,
      same-behind c.loop-at.answers c.args.answers.now i c.make-answer.result.0 before.3,
      c.add_given.ensures before.1 (lent c.args.copies.now) s c.make-answer.new.hand c.make-answer.new.used before.4,
    )

pub returns-clause-performed : goal.returns-clause-performed
returns-clause-performed g c = λ advances.
    let m = lent c.args.memory.now in
    let own = lent c.args.own.now in
    let begin = start c.args.number c.args.hand.now m own in
    let list = all_asked g.S.FontSource.means advances c.args.calls.now in
    let done = c.loop-at.invariant advances in
    let ended = c.waive_all.ensures advances (lent c.loop-at.memory) (lent c.loop-at.own) in
    let i = c.loop-at.at in
    let inside = simp length-take at c.loop-at.auto.at-end in
    let past = simp length-take at c.loop-at-test.false in
    let places : i ≡ min (length (map said_by c.args.answers.now)) (length list) = simp length-map (omega arith) in
    let first : take i list ≡ take (length (map said_by c.args.answers.now)) list = as-many-as list (length (map said_by c.args.answers.now)) i places in
    let said = map said_by (take i c.loop-at.answers) in
    let last = desk ended.0 c.waive_all.new.hand c.loop-at.used (lent c.loop-at.memory) (lent c.loop-at.own) in
    let all = subst (λ cs. Performs begin (cs ++ waives c.loop-at.used) (said ++ ended.1) (ended.2 ++ done.0) (joined done.1 nothing) last) first (join done.2 ended.3) in
    let run : Run begin (take (length (map said_by c.args.answers.now)) list) = record {
      said = said;
      at_end = ended.1;
      made = ended.2 ++ done.0;
      gave = joined done.1 nothing;
      last = last;
      each = simp (length-map, length-take) (omega arith);
      performs = all;
    } in
    record {
      run = run;
      answers = all-written said_by c.loop-at.answers c.args.answers.now i (omega arith) done.3;
      hand = refl;
      memory = refl;
      own = refl;
      run_copies = done.4.0.1 ∙ ap (λ l. laid_over l c.args.copies.now.run.items) (sym (append-nil done.1.run));
      marks_copies = done.4.1.1 ∙ ap (λ l. laid_over l c.args.copies.now.marks.items) (sym (append-nil done.1.marks));
      ended = ended.4;
      lawful = lawful c.args.number begin made all;
      settled = settled c.args.number c.args.hand.now m own (take (length (map said_by c.args.answers.now)) list) run;
    }

pub returns-clause-slips : goal.returns-clause-slips
returns-clause-slips g c =
    let done = returns-clause-performed g c (λ s n. 0) in
    ap slips_in done.hand ∙ as-many c.args.number c.args.hand.now (lent c.args.memory.now) (lent c.args.own.now) (take (length (map said_by c.args.answers.now)) (all_asked g.S.FontSource.means (λ s n. 0) c.args.calls.now)) done.run
