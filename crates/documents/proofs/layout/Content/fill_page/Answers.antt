use Rattle.std.proofs.Common.{rules, tests, ◌≡◌, ℕ, ◌-◌, ◌≤◌, ◌++◌, List, length, take, drop, set, replicate, sym, ap, ◌∙◌, arith, length-append, length-take}
use Rattle.std.proofs.lemmas.Iterator.{YieldsList-from_slice, YieldsList-from_map, YieldsList-from_take}
use Rattle.std.proofs.lemmas.Iterator.Consumers.{YieldsList-at, YieldsList-from_copied, YieldsList-from_chain, YieldsList-from_enumerate, YieldsList-turn, YieldsList-end}
use Rattle.std.proofs.lemmas.List.{take_all, length-take-le}
use Rattle.std.proofs.lemmas.List.FromFn.{length-enumerate_from}
use Rattle.pages.specs.Places.{written}
use Rattle.pages.proofs.Places.{written_none}
use Rattle.documents.specs.Pages.{low_bytes}
use Rattle.documents.proofs.Copied.{content_past, next_byte, over_zeros}
use Rattle.documents.proofs.layout.Content.fill_page.Goals as goal

pub loop-i-init : goal.loop-i-init
loop-i-init c =
    let h : List ℕ = c.args.header.now in
    let t : List ℕ = c.args.self.now.title.now in
    let b : List ℕ = c.args.self.now.body.now in
    let n = c.args.start in (
      rw (content_past h t b n)
          (YieldsList-at c.into_iter-i-iterator.ensures.into_iter_gives
          (YieldsList-from_enumerate
          (YieldsList-at c.enumerate-i-items.ensures.source
          (YieldsList-from_take 504
          (YieldsList-at c.take.ensures.source
          (YieldsList-from_chain
          (YieldsList-at c.chain-content.ensures.first
          (YieldsList-from_chain
          (YieldsList-at c.chain.ensures.first
          (YieldsList-from_copied (YieldsList-at c.copied.ensures.source (YieldsList-from_slice (drop n h) (cc)))))
          (YieldsList-at c.chain.ensures.second
          (YieldsList-from_map _ _ (YieldsList-at c.map.ensures.source (YieldsList-from_slice (drop (n - length h) t) (cc))) c.map.ensures.closure (λ x r q k. search (rules, tests))))
          c.chain.ensures.first_done c.chain.ensures.second_done))
          (YieldsList-at c.chain-content.ensures.second
          (YieldsList-from_map _ _ (YieldsList-at c.map-2.ensures.source (YieldsList-from_slice (drop (n - length h - length t) b) (cc))) c.map-2.ensures.closure (λ x r q k. search (rules, tests))))
          c.chain-content.ensures.first_done c.chain-content.ensures.second_done))
          c.take.ensures.count))
          c.enumerate-i-items.ensures.count)),
      sym (written_none _ 0),
    )

pub loop-i-preserved : goal.loop-i-preserved
loop-i-preserved c =
    let bytes : List ℕ = take 504 (drop c.args.start (c.args.header.now ++ (low_bytes c.args.self.now.title.now ++ low_bytes c.args.self.now.body.now))) in
    let row : List ℕ = c.fill.new.self ++ drop 512 c.args.out.now in
    let here = YieldsList-turn c.loop-i.invariant.0 c.loop-i.yielded _ c.loop-i.yielded_by _ _ _ c.in-Some.is c.next.ensures.steps in
    let few : length bytes ≤ 504 = simp length-take (omega arith) in
    let front = length-take-le 512 c.args.out.now c.requires.0 in
    let room : 512 ≤ length row = simp length-append (omega arith) in (
      c.loop-i.invariant.0,
      ap (λ o. set o c.in-Some.i c.in-Some.byte) c.loop-i.invariant.1 ∙ next_byte row bytes (length c.loop-i.yielded) c.in-Some.i c.in-Some.byte here.0 here.1 (omega arith)
          ∙ ap (λ k. written row 0 (take k bytes)) (sym (length-append c.loop-i.yielded _)),
    )

pub returns : goal.returns
returns c =
    let bytes : List ℕ = take 504 (drop c.args.start (c.args.header.now ++ (low_bytes c.args.self.now.title.now ++ low_bytes c.args.self.now.body.now))) in
    let row : List ℕ = c.fill.new.self ++ drop 512 c.args.out.now in
    let whole = YieldsList-end c.loop-i.invariant.0 c.loop-i.yielded _ c.loop-i.yielded_by _ _ c.in-None.is c.next.ensures.steps in
    let few : length bytes ≤ 504 = simp length-take (omega arith) in
    let blank : c.fill.new.self ≡ replicate 512 0 = c.fill.ensures.after (λ y e. e) ∙ ap (λ n. replicate n 0) (length-take-le 512 c.args.out.now c.requires.0) in
    c.loop-i.invariant.1 ∙ ap (λ k. written row 0 (take k bytes)) (whole.1 ∙ length-enumerate_from 0 bytes) ∙ ap (written row 0) (take_all (length bytes) bytes (omega arith))
    ∙ ap (λ z. written (z ++ drop 512 c.args.out.now) 0 bytes) blank ∙ over_zeros c.args.out.now bytes (omega arith) (omega arith)
