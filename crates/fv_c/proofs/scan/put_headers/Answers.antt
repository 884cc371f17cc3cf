use Rattle.std.proofs.Common.{rules, sym}
use Rattle.fv_c.proofs.HeaderRows.{headers_of}
use Rattle.fv_c.proofs.scan.put_headers.Goals as goal

pub returns-then-rows-volumes-clause-written : goal.returns-then-rows-volumes-clause-written
returns-then-rows-volumes-clause-written c =
    let (headers, are, long) = headers_of c.args.image.now c.args.volumes.now c.requires in
    (headers, are, search rules, sym long)

pub returns-clause-written : goal.returns-clause-written
returns-clause-written c =
    let (headers, are, long) = headers_of c.args.image.now c.args.volumes.now c.requires in
    let put = c.put_each_header.ensures headers are in
    (headers, are, search rules, sym long)
