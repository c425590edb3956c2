use Rattle.ad_printer.proofs.Definitions.{opened, closing_near, ad_written}
use Rattle.ad_printer.proofs.put_ad.Goals as goal

pub put_definitions-m-requires : goal.put_definitions-m-requires
put_definitions-m-requires c = opened c.args.ad.words.now c.args.ad.bytes.now c.args.d c.requires

pub put-requires : goal.put-requires
put-requires c = closing_near c.args.ad.words.now c.args.ad.bytes.now c.args.d _ _ _
    c.requires c.put_definitions-m.ensures

pub returns : goal.returns
returns c = ad_written c.args.ad.words.now c.args.ad.bytes.now c.args.d _ _ _ _ _ _ c.put_byte.ensures
    c.put_definitions-m.ensures c.put.ensures
