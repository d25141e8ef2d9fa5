use Rattle.std.proofs.Common.{◌≡◌, length, refl, sym, arith, length-take}
use Rattle.std.proofs.lemmas.Bool.{and_from, le-leb}
use Rattle.places.proofs.Sorted.{index_different, index_sorted}
use Rattle.places.proofs.sort.place_words.Goals as goal

pub sort-requires : goal.sort-requires
sort-requires c =
    let title = c.args.texts.title.now in
    let body = c.args.texts.body.now in
    let mid = c.index_words.new.tokens in
    let n = c.in_ok-n.n in
    let x = c.in_ok-n.ensures.made in
    record {
      room = omega (arith, length-take n mid, x.within);
      different = index_different title body c.args.tokens.now mid n x;
    }

pub returns : goal.returns
returns c =
    let title = c.args.texts.title.now in
    let body = c.args.texts.body.now in
    let mid = c.index_words.new.tokens in
    let out = c.sort.new.tokens in
    let n = c.in_ok-n.n in
    let x = c.in_ok-n.ensures.made in
    let l : length out ≡ n = omega (arith, c.sort.auto.tokens, length-take n mid, c.index_words.auto.tokens, x.within) in
    record {
      fits = sym (and_from _ _ (le-leb _ _ (omega arith)) (sym c.in_ok-n.ensures.fits));
      placed = index_sorted title body c.args.tokens.now mid out _ n x l c.sort.ensures refl;
    }
