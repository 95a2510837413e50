use Rattle.std.proofs.Common.{rules, ◌==◌, not, sym, subst}
use borrow.Author.Tests.{tests}
use Rattle.std.proofs.lemmas.Iterator.{YieldsList, YieldsList-from_slice}
use Rattle.std.proofs.lemmas.Iterator.Consumers.{YieldsList-from_copied, YieldsList-from_filter}
use Rattle.listing.proofs.Unhexing.{unblanked, IsReadTo, read_none, read_all, read_bad, read_half, read_pair}
use Rattle.listing.proofs.unhexed.read_hex.Given.{iterator-loop-c}
use Rattle.listing.proofs.unhexed.read_hex.Goals as goal

pub loop-c-init : goal.loop-c-init
loop-c-init c =
    let left : YieldsList iterator-loop-c.next_gives (λ x. x) c.filter-digits.result (unblanked c.args.text.now) =
    YieldsList-from_filter _ (λ x. not (x == 32)) (YieldsList-from_copied (YieldsList-from_slice c.args.text.now (cc))) c.filter-digits.ensures.closure (λ x r q k. search (rules, tests)) in
    subst (λ out. IsReadTo iterator-loop-c.next_gives c.args.text.now out c.filter-digits.result) (sym c.new-out.ensures.items)
    (read_none iterator-loop-c.next_gives c.args.text.now c.filter-digits.result left)

pub returns-in_default-digit_value : goal.returns-in_default-digit_value
returns-in_default-digit_value c =
    read_bad iterator-loop-c.next_gives c.args.text.now c.loop-c.out.items c.loop-c.digits c.next.new.self c.loop-c.invariant c.in-Some.c c.in-Some.ensures.steps c.in_default-digit_value.ensures.value

pub returns-in_default-and_then : goal.returns-in_default-and_then
returns-in_default-and_then c =
    read_half iterator-loop-c.next_gives c.args.text.now c.loop-c.out.items c.loop-c.digits c.next.new.self c.loop-c.invariant c.in-Some.c c.in-Some.ensures.steps
    c.in-Some-digit_value.high c.in-Some-digit_value.ensures.value c.next-in-Some.new.self _ c.and_then.result (λ d p. p.0)
    c.next-in-Some.result c.next-in-Some.ensures.steps c.and_then.ensures c.in_default-and_then.is

pub loop-c-preserved : goal.loop-c-preserved
loop-c-preserved c =
    read_pair iterator-loop-c.next_gives c.args.text.now c.loop-c.out.items c.loop-c.digits c.next.new.self c.loop-c.invariant c.in-Some.c c.in-Some.ensures.steps
    c.in-Some-digit_value.high c.in-Some-digit_value.ensures.value c.next-in-Some.new.self _ c.and_then.result (λ d p. p.0)
    c.next-in-Some.result c.next-in-Some.ensures.steps c.and_then.ensures c.in-Some-and_then.low c.push.new.self.items c.in-Some-and_then.is c.in_ok-push.ensures.items

pub returns : goal.returns
returns c = read_all iterator-loop-c.next_gives c.args.text.now c.loop-c.out.items c.loop-c.digits c.next.new.self c.loop-c.invariant c.in_default.ensures.steps
